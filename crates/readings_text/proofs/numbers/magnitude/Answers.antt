use Rattle.std.proofs.Common.{◌≡◌, ◌∙◌, arith, rules}
use Rattle.readings_text.proofs.Magnitudes.{capped_after, capped}
use Rattle.readings_text.proofs.numbers.magnitude.Goals as goal

pub returns : goal.returns
returns c =
    let is : c.fold.result ≡ capped_after 0 c.args.digits.now = search rules in
    is ∙ capped 0 c.args.digits.now (omega arith)
