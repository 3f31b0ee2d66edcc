-- Numbers digit by digit.
use Rattle.std.proofs.Common.{◌≡◌, ℕ, ◌+◌, ◌-◌, ◌*◌, ◌^◌, ◌≤◌, [], ◌∷◌, min, ◌⊎◌, inl, inr, ⊎_elim, ap, ◌∙◌, arith}
use Rattle.std.specs.List.{fold}
use Rattle.std.proofs.lemmas.Bool.{cases_order}
use Rattle.text.specs.Grammar.{Bytes}
use Rattle.text.specs.Decimal.{value_of_more_digits}

-- more digits write no less
decimal_grows : (n : ℕ) (bs : Bytes) → n ≤ value_of_more_digits n bs
decimal_grows n [] = omega arith
decimal_grows n (b ∷ bs) = omega (arith, decimal_grows (n * 10 + (b - 48)) bs)

abbrev pub most : ℕ
most = 2 ^ 64 - 1

-- the digits of bs after those that write n, up to the most
abbrev pub capped_after : ℕ → Bytes → ℕ
capped_after n bs = fold (λ n b. min (min (n * 10) most + (b - 48)) most) n bs

below_or_past : (m : ℕ) → (m ≤ most) ⊎ (most ≤ m)
below_or_past m = ⊎_elim (λ e. inl (omega arith)) (⊎_elim (λ h. inl (omega arith)) (λ h. inr (omega arith))) (cases_order m most)

-- past the most it makes no difference what is counted on from
past_most : (m : ℕ) (bs : Bytes) → min (value_of_more_digits (min m most) bs) most ≡ min (value_of_more_digits m bs) most
past_most m bs =
    ⊎_elim
    (λ h. let same : min m most ≡ m = omega arith in ap (λ k. min (value_of_more_digits k bs) most) same)
    (λ h. omega (arith, decimal_grows (min m most) bs, decimal_grows m bs))
    (below_or_past m)

pub capped : (n : ℕ) (bs : Bytes) → n ≤ most → capped_after n bs ≡ min (value_of_more_digits n bs) most
capped n [] h = omega arith
capped n (b ∷ bs) h =
    let same : min (min (n * 10) most + (b - 48)) most ≡ min (n * 10 + (b - 48)) most = omega arith in
    ap (λ m. capped_after m bs) same ∙ capped (min (n * 10 + (b - 48)) most) bs (omega arith) ∙ past_most (n * 10 + (b - 48)) bs
