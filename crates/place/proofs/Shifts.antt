-- Numbers that are all counted on by the same are compared as before.
use Rattle.std.proofs.Common.{◌≡◌, ℕ, ◌+◌, sym, ap, ◌∙◌, ⊎_elim, arith}
use Rattle.std.specs.Prelude.{◌==◌, nat_le}
use Rattle.std.proofs.lemmas.Bool.{le-leb, lt-leb, eq-eqb, ne_eqb, cases_lt, cases_eq}

pub le_on : (c a b : ℕ) → nat_le a b ≡ nat_le (c + a) (c + b)
le_on c a b =
    ⊎_elim
    (λ h. lt-leb a b h ∙ sym (lt-leb (c + a) (c + b) (omega arith)))
    (λ h. le-leb a b h ∙ sym (le-leb (c + a) (c + b) (omega arith)))
    (cases_lt b a)

pub eq_on : (c a b : ℕ) → (a == b) ≡ (c + a == c + b)
eq_on c a b =
    ⊎_elim
    (λ (e : a ≡ b). eq-eqb a b e ∙ sym (eq-eqb (c + a) (c + b) (ap (λ (n : ℕ). c + n) e)))
    (λ n. ne_eqb a b n ∙ sym (ne_eqb (c + a) (c + b) (λ e. n (omega arith))))
    (cases_eq a b)
