use Rattle.std.proofs.Common.{rules}
use Rattle.readings_text.proofs.Writing.{with_minus, with_none, first_rest, no_first}
use Rattle.readings_text.proofs.numbers.number.Goals as goal
use Rattle.readings_text.proofs.numbers.number.Goals.{in_default-via-then-text-lt1, in_default-via-else-text-lt1+in_default-1}

pub returns-in-45 : goal.returns-in-45
returns-in-45 c = with_minus c.args.text.now _ c.negative.result (search (rules, first_rest)) c.negative.ensures

pub returns-in_default : goal.returns-in_default
returns-in_default c =
    with_none c.args.text.now c.positive.result
    (λ g e. let q = no_first c.args.text.now g e in elim c.in_default-1.branch [ in_default-via-then-text-lt1 w ↦ search rules | in_default-via-else-text-lt1+in_default-1 w ↦ search rules ])
    c.positive.ensures
