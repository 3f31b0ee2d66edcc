-- A line is allowed if a test of its fields, which computes, says so.
use Rattle.std.proofs.Common.{◌≡◌, ℕ, Bool, true, false, ◌&&◌, ◌||◌, eqb, nat_le, List, [], ◌∷◌, length, refl, arith, inl, inr, ◌⊎◌, ⊎_elim}
use Rattle.std.proofs.lemmas.Bool.{false≢true}
use Rattle.std.proofs.lemmas.Bool.Decides.{nat_tests}
use Rattle.text.specs.declared.kinds.Kind.{Kind}
use Rattle.text.specs.declared.kinds.Kind.TheVariants.{Number, Coefficient}
use Rattle.text.specs.Grammar.{Bytes, Digits, Plain, Text, Matches, Grouped, kinds_repeated, spaced}

abbrev pub are_digits : Bytes → Bool
are_digits [] = true
are_digits (b ∷ bs) = nat_le 48 b && (nat_le b 57 && are_digits bs)

abbrev pub is_plain : Bytes → Bool
is_plain f = are_digits f && (nat_le 1 (length f) && nat_le (length f) 7)

abbrev pub is_text : Kind → Bytes → Bool
is_text Number f = is_plain f
is_text Coefficient [] = false
is_text Coefficient (b ∷ f) = is_plain (b ∷ f) || (eqb b 45 && is_plain f)

abbrev pub matching : List Kind → List Bytes → Bool
matching [] [] = true
matching [] (f ∷ fs) = false
matching (k ∷ ks) [] = false
matching (k ∷ ks) (f ∷ fs) = is_text k f && matching ks fs

digits : (f : Bytes) → are_digits f ≡ true → Digits f
digits [] e = tt
digits (b ∷ bs) e = grind (arith, nat_tests, digits bs)

plain : (f : Bytes) → is_plain f ≡ true → Plain f
plain f e = grind (arith, nat_tests, digits f)

either : (a b : Bool) → (a || b) ≡ true → (a ≡ true) ⊎ (b ≡ true)
either true b e = inl refl
either false b e = inr e

text : (k : Kind) (f : Bytes) → is_text k f ≡ true → Text k f
text Number f e = plain f e
text Coefficient [] e = absurd (false≢true e)
text Coefficient (b ∷ f) e =
    ⊎_elim (λ p. inl (plain (b ∷ f) p)) (λ q. inr (f, grind (arith, nat_tests), plain f (grind (arith, nat_tests)))) (either _ _ e)

matches : (ks : List Kind) (fs : List Bytes) → matching ks fs ≡ true → Matches ks fs
matches [] [] e = tt
matches [] (f ∷ fs) e = absurd (false≢true e)
matches (k ∷ ks) [] e = absurd (false≢true e)
matches (k ∷ ks) (f ∷ fs) e = (text k f (grind (arith, nat_tests)), matches ks fs (grind (arith, nat_tests)))

-- m groups of fields, of at most n
pub grouped : (ks : List Kind) (n m : ℕ) (fs : List Bytes) → (nat_le 1 m && (nat_le m n && matching (kinds_repeated m ks) fs)) ≡ true → Grouped ks n (spaced fs)
grouped ks n m fs e = (m, fs, grind (arith, nat_tests), grind (arith, nat_tests), matches (kinds_repeated m ks) fs (grind (arith, nat_tests)), refl)
