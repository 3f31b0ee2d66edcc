use Rattle.std.proofs.Common.{◌≡◌, ◌≤◌, MatchOption, length, rules}
use Rattle.text.specs.Decimal.{value_of_digits}
use Rattle.text.specs.Reading.{digits_of}
use Rattle.commands.proofs.Stepwise.{number_read}
use Rattle.commands.proofs.next.next_number.Goals as goal

pub returns : goal.returns
returns c =
    let told : MatchOption c.next.result (c.map_or.result ≡ 0) (λ f. length (digits_of f) ≤ 7 → c.map_or.result ≡ value_of_digits (digits_of f)) = search rules in
    number_read _ _ _ _ c.next.ensures.steps told
