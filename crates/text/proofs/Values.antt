-- A number digit by digit.
use Rattle.std.proofs.Common.{◌≡◌, ℕ, ◌+◌, ◌-◌, ◌*◌, ◌^◌, ◌<◌, ◌≤◌, [], ◌∷◌, length, get_or, suc, min, ◌⊎◌, inl, inr, ⊎_elim, refl, ap, ◌∙◌, pow-suc, add-one, arith}
use native.Mathlib.Nat.{pow-le-pow_right}
use Rattle.std.specs.List.{fold}
use Rattle.std.proofs.lemmas.Bool.{cases_order}
use Rattle.text.specs.Grammar.{Bytes}
use Rattle.text.specs.Decimal.{value_of_more_digits}

-- a byte less 48 is at most 207, and 23 * 9 is 207
digit_more : (s d i : ℕ) → s + 23 ≤ 23 * 10 ^ i → i < 7 → d ≤ 207 → (s * 10 + d + 23 ≤ 23 * 10 ^ (i + 1)) × (s * 10 + d < 2 ^ 31)
digit_more s d i h l small =
    let up : 10 ^ (i + 1) ≡ 10 ^ i * 10 = ap (λ k. 10 ^ k) (add-one i) ∙ pow-suc 10 i in
    let top : 10 ^ (i + 1) ≤ 10 ^ 7 = let le : i + 1 ≤ 7 = omega arith in let some : 1 ≤ 10 = omega arith in pow-le-pow_right some le in
    (omega arith, omega arith)

-- the digits of bs after those that write n, up to a limit
abbrev pub capped_after : ℕ → Bytes → ℕ
capped_after n bs = fold (λ n b. min (n * 10 + (b - 48)) 2147483647) n bs

pub capped_bound : (n : ℕ) (bs : Bytes) → n < 2 ^ 31 → capped_after n bs < 2 ^ 31
capped_bound n [] h = h
capped_bound n (b ∷ bs) h = capped_bound (min (n * 10 + (b - 48)) 2147483647) bs (omega arith)

pub capped_exact : (n i : ℕ) (bs : Bytes) → ((k : ℕ) → get_or bs k 0 < 256) → i + length bs ≤ 7 → n + 23 ≤ 23 * 10 ^ i → capped_after n bs ≡ value_of_more_digits n bs
capped_exact n i [] fits short small = refl
capped_exact n i (b ∷ bs) fits short small =
    let byte : b < 256 = fits 0 in
    let on = digit_more n (b - 48) i small (omega arith) (omega arith) in
    let same : min (n * 10 + (b - 48)) 2147483647 ≡ n * 10 + (b - 48) = omega (arith, on.1) in
    ap (λ m. capped_after m bs) same ∙ capped_exact (n * 10 + (b - 48)) (i + 1) bs (λ k. fits (suc k)) (omega arith) on.0

-- more digits write no less
decimal_grows : (n : ℕ) (bs : Bytes) → n ≤ value_of_more_digits n bs
decimal_grows n [] = omega arith
decimal_grows n (b ∷ bs) = omega (arith, decimal_grows (n * 10 + (b - 48)) bs)

-- past the limit it makes no difference what is counted on from
past_limit : (m : ℕ) (bs : Bytes) → min (value_of_more_digits (min m 2147483647) bs) 2147483647 ≡ min (value_of_more_digits m bs) 2147483647
past_limit m bs =
    ⊎_elim
    (λ h. let same : min m 2147483647 ≡ m = omega arith in ap (λ k. min (value_of_more_digits k bs) 2147483647) same)
    (λ h. omega (arith, decimal_grows (min m 2147483647) bs, decimal_grows m bs))
    (below_or_past m)
  where
    below_or_past : (m : ℕ) → (m ≤ 2147483647) ⊎ (2147483647 ≤ m)
    below_or_past m = ⊎_elim (λ e. inl (omega arith)) (⊎_elim (λ h. inl (omega arith)) (λ h. inr (omega arith))) (cases_order m 2147483647)

pub capped_min : (n : ℕ) (bs : Bytes) → n ≤ 2147483647 → capped_after n bs ≡ min (value_of_more_digits n bs) 2147483647
capped_min n [] h = omega arith
capped_min n (b ∷ bs) h =
    capped_min (min (n * 10 + (b - 48)) 2147483647) bs (omega arith) ∙ past_limit (n * 10 + (b - 48)) bs
