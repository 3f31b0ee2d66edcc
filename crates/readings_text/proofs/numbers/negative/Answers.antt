use Rattle.std.proofs.Common.{rules, ap, ◌∙◌, ◌≡◌, ◌≤◌, subst, sym, pos, neg_ℤ, unsigned_abs, ℕ}
use Rattle.small_readings.specs.Small.{largest_reading}
use Rattle.readings_text.specs.Numbers.{IsSmallSize}
use Rattle.readings_text.proofs.Writing.{held_negation, size_of_negation}
use Rattle.readings_text.proofs.numbers.negative.Goals as goal

pub returns : goal.returns
returns c =
    let told : IsSmallSize c.args.digits.now c.in-Some.size = c.in-Some.ensures in
    let value : c.new.result.value ≡ neg_ℤ (pos c.in-Some.size) = c.new.ensures.value ∙ held_negation c.in-Some.size told.1 in
    let size : unsigned_abs c.new.result.value ≡ c.in-Some.size = ap unsigned_abs value ∙ size_of_negation c.in-Some.size in
    ((search rules, value ∙ ap (λ (n : ℕ). neg_ℤ (pos n)) told.0), subst (λ (n : ℕ). n ≤ largest_reading) (sym size) told.1)
