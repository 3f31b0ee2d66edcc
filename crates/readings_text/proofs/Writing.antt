-- Which texts write numbers.
use Rattle.std.proofs.Common.{◌≡◌, refl, ℕ, zero, suc, ℤ, pos, neg_ℤ, ◌-ℤ◌, to_z, of_z, w64, unsigned_abs, ◌∷◌, [], inl, inr, ⊎_elim, sym, None, Some, Option, MatchOption, subst, ◌∙◌, arith, get_or, length, take, drop, ◌≤◌, ◌-◌, ap}
use Rattle.std.proofs.lemmas.List.{drop_more, take_rest}
use Rattle.std.proofs.lemmas.Int.{to_z_pos, to_z-of_z}
use Rattle.std.proofs.Math.IntN.{+ℤ_idl}
use Rattle.std.specs.Int.Signed.{mag}
use Rattle.small_readings.specs.Small.{largest_reading}
use Rattle.text.specs.Grammar.{Bytes}
use Rattle.readings_text.specs.declared.numbers.Written.{Written}
use Rattle.readings_text.specs.declared.numbers.Written.TheVariants.{Small, Large}
use Rattle.readings_text.specs.Numbers.{Writes, SomeDigits, WritesNegative, WritesPositive, Keeps}

head_same : {a b : ℕ} {x y : Bytes} → ◌≡◌ {A = Bytes} (a ∷ x) (b ∷ y) → a ≡ b
head_same p = cc

tail_same : {a b : ℕ} {x y : Bytes} → ◌≡◌ {A = Bytes} (a ∷ x) (b ∷ y) → x ≡ y
tail_same p = cc

-- a minus is no digit
not_plain : (text g : Bytes) → text ≡ 45 ∷ g → SomeDigits text → ⊥
not_plain [] g e n = let l = n.some in omega arith
not_plain (b ∷ bs) g e n = let q = head_same e in let h = n.digits 0 0 (omega arith) in omega arith

-- what is kept of the number, or that there is none
abbrev pub Told : (ℤ → Type 0) → Option Written → Type 0
Told P r = MatchOption r ((z : ℤ) → P z → ⊥) (Keeps P)

size_below : (n : ℕ) → mag (neg_ℤ (pos n)) ≤ n
size_below zero = omega arith
size_below (suc n) = omega arith

-- the negation of a small number, as 64 bits hold it
pub held_negation : (n : ℕ) → n ≤ largest_reading → to_z w64 (of_z w64 (pos 0 -ℤ to_z w64 n)) ≡ neg_ℤ (pos n)
held_negation n small =
    let below = size_below n in
    ap (λ k. to_z w64 (of_z w64 (pos 0 -ℤ k))) (to_z_pos w64 n (omega (arith, small)))
    ∙ ap (λ k. to_z w64 (of_z w64 k)) (+ℤ_idl (neg_ℤ (pos n)))
    ∙ to_z-of_z w64 (neg_ℤ (pos n)) (record { sfits = omega (arith, below, small) })

pub size_of_negation : (n : ℕ) → unsigned_abs (neg_ℤ (pos n)) ≡ n
size_of_negation zero = refl
size_of_negation (suc n) = refl

-- what holds of a number by another way of saying it
pub keeps_onward : (P Q : ℤ → Type 0) → ((z : ℤ) → P z → Q z) → (kept : Written) → Keeps P kept → Keeps Q kept
keeps_onward P Q on (Small w) h = (on w.value h.0, h.1)
keeps_onward P Q on Large h = (h.0, on h.0 h.1, h.2)

pub with_minus : (text g : Bytes) (r : Option Written) → text ≡ 45 ∷ g → Told (WritesNegative g) r → Told (Writes text) r
with_minus text g None e h = λ z. ⊎_elim (λ p. not_plain text g e p.0) (λ q. h z (subst (λ (x : Bytes). WritesNegative x z) (tail_same (sym q.1 ∙ e)) q.2))
with_minus text g (Some kept) e h = keeps_onward (WritesNegative g) (Writes text) (λ z p. inr (g, e, p)) kept h

pub with_none : (text : Bytes) (r : Option Written) → ((g : Bytes) → text ≡ 45 ∷ g → ⊥) → Told (WritesPositive text) r → Told (Writes text) r
with_none text None e h = λ z. ⊎_elim (λ p. h z p) (λ q. e q.0 q.1)
with_none text (Some kept) e h = keeps_onward (WritesPositive text) (Writes text) (λ z p. inl p) kept h

pub first_rest : (text : Bytes) → 1 ≤ length text → get_or text 0 0 ≡ 45 → text ≡ 45 ∷ take (length text - 1) (drop 1 text)
first_rest text some is = drop_more text 0 0 some ∙ ap (λ (x : ℕ). x ∷ drop 1 text) is ∙ sym (ap (λ (x : Bytes). 45 ∷ x) (take_rest text 1))

pub no_first : (text g : Bytes) → text ≡ 45 ∷ g → (1 ≤ length text) × (get_or text 0 0 ≡ 45)
no_first text g e = (omega (arith, ap length e), ap (λ (x : Bytes). get_or x 0 0) e)
