-- The value of a field, by how it is written.
use Rattle.std.proofs.Common.{◌≡◌, ℕ, ◌<◌, ◌≤◌, Option, Some, None, MatchOption, eqb, [], ◌∷◌, length, get_or, ℤ, pos, neg_ℤ, sym, ap, ◌∙◌, subst, ⊎_elim, arith, w32, w64, to_z, of_z}
use lib.Signed.{mag}
use Rattle.std.proofs.lemmas.Int.{ints}
use Rattle.std.proofs.lemmas.Bool.{ne_eqb, cond-false}
use Rattle.text.specs.declared.kinds.Kind.TheVariants.{Number, Coefficient}
use Rattle.text.specs.declared.line.Field.{Field}
use Rattle.text.specs.declared.line.Fields.{Fields}
use Rattle.text.specs.declared.line.Field.TheVariants.{Unsigned, Negative}
use Rattle.text.specs.Grammar.{Bytes, Plain, Text}
use Rattle.text.specs.Decimal.{value_of_digits, value_of_signed}
use Rattle.text.specs.Reading.{digits_of, value_of, Spells, FieldStep, rest_of}
use Rattle.text.proofs.Steps.{tail_same}
use Rattle.text.proofs.Words.{text_unbroken}
use Rattle.commands.specs.Steps.{ReadsNumber, ReadsCoefficient, ReadsTerm}

-- a field that is written as digits is unsigned
pub number_digits : (f : Field) (g : Bytes) → Spells f g → Plain g → (length (digits_of f) ≤ 7) × (digits_of f ≡ g)
number_digits (Unsigned d n k) g s p = let l = p.short in (subst (λ (x : Bytes). length x ≤ 7) s.0 l, sym s.0)
number_digits (Negative d n k) g s p = absurd (minus (subst Plain s p))
  where
    minus : Plain (45 ∷ d.now) → ⊥
    minus q = let h = q.digits.0 in omega arith

unsigned : (g : Bytes) → Plain g → value_of_signed g ≡ pos (value_of_digits g)
unsigned [] p = let h = p.some in absurd (omega arith)
unsigned (b ∷ bs) p =
    let h = p.digits.0 in
    cond-false (eqb b 45) (neg_ℤ (pos (value_of_digits bs))) (pos (value_of_digits (b ∷ bs))) (ne_eqb b 45 (λ e. omega arith))

pub coefficient_value : (f : Field) (g : Bytes) → Spells f g → Text Coefficient g → (length (digits_of f) ≤ 7) × (value_of f ≡ value_of_signed g)
coefficient_value (Unsigned d n k) g s t =
    ⊎_elim
    (λ p. let l = p.short in (subst (λ (x : Bytes). length x ≤ 7) s.0 l, ap (λ (x : Bytes). pos (value_of_digits x)) (sym s.0) ∙ sym (unsigned g p)))
    (λ m. absurd (s.1 (let e = ap length m.1 in omega arith) (ap (λ (x : Bytes). get_or x 0 0) m.1)))
    t
coefficient_value (Negative d n k) g s t =
    ⊎_elim
    (λ p. absurd (minus (subst Plain s p)))
    (λ m.
    let same : d.now ≡ m.0 = tail_same (sym s ∙ m.1) in
    let l = m.2.short in
    (let e = ap length same in omega arith, ap value_of_signed (sym s)))
    t
  where
    minus : Plain (45 ∷ d.now) → ⊥
    minus q = let h = q.digits.0 in omega arith

-- what is read where a field is taken, and 0 where none is
pub number_read : (s t : Fields) (o : Option Field) (r : ℕ) → FieldStep s o t → MatchOption o (r ≡ 0) (λ f. length (digits_of f) ≤ 7 → r ≡ value_of_digits (digits_of f)) → ReadsNumber (rest_of s) r (rest_of t)
number_read s t None r step is g gs here plain = absurd (step.first g gs here (text_unbroken Number g plain))
number_read s t (Some f) r step is g gs here plain =
    let told = step.first g gs here (text_unbroken Number g plain) in
    let digits = number_digits f g told.0 plain in
    (is digits.0 ∙ ap value_of_digits digits.1, told.1)

pub coefficient_read : (s t : Fields) (o : Option Field) (r : ℤ) → FieldStep s o t → MatchOption o (r ≡ pos 0) (λ f. length (digits_of f) ≤ 7 → r ≡ value_of f) → ReadsCoefficient (rest_of s) r (rest_of t)
coefficient_read s t None r step is g gs here kind = absurd (step.first g gs here (text_unbroken Coefficient g kind))
coefficient_read s t (Some f) r step is g gs here kind =
    let told = step.first g gs here (text_unbroken Coefficient g kind) in
    let value = coefficient_value f g told.0 kind in
    (is value.0 ∙ value.1, told.1)

-- the three fields of a term
pub term_read : (s t u w : Bytes) (c : ℤ) (o v : ℕ) → ReadsCoefficient s c t → ReadsNumber t o u → ReadsNumber u v w → ReadsTerm s (Some (record { coefficient = c; order = o; variable = v })) w
term_read s t u w c o v first second third x y z gs here coefficient order variable =
    let a = first x (y ∷ z ∷ gs) here coefficient in
    let b = second y (z ∷ gs) a.1 order in
    let d = third z gs b.1 variable in
    let a_is = a.0 in
    let b_is = b.0 in
    let d_is = d.0 in
    (cc, d.1)

-- a coefficient passes through its bits unchanged
pub kept : (z : ℤ) → mag z < 9223372036854775808 → to_z w64 (of_z w64 z) ≡ z
kept z fits = omega (arith, ints)

pub widened : (z r : ℤ) → mag z < 2147483648 → r ≡ to_z w32 (of_z w32 z) → to_z w64 (of_z w64 r) ≡ z
widened z r small is = omega (arith, ints)
