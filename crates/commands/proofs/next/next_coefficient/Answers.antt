use Rattle.std.proofs.Common.{◌≡◌, ◌≤◌, MatchOption, length, pos, rules}
use Rattle.text.specs.Reading.{digits_of, value_of}
use Rattle.commands.proofs.Stepwise.{coefficient_read, kept}
use Rattle.commands.proofs.next.next_coefficient.Goals as goal

pub returns : goal.returns
returns c =
    let told : MatchOption c.next.result (c.map_or.result ≡ pos 0) (λ f. length (digits_of f) ≤ 7 → c.map_or.result ≡ value_of f) = search rules in
    rw (kept c.map_or.result c.map_or.type_inv) (coefficient_read _ _ _ _ c.next.ensures.steps told)
