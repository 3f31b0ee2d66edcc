-- The changes of a two-way switch are a group.
use Rattle.std.specs.Prelude.{◌≡◌, refl, Bool, true, false, not, ◌&&◌, ℕ, zero, suc, ◌+◌, ◌%◌, eqb, ℤ, pos, ◌+ℤ◌, nat_abs}
use Rattle.std.proofs.Common.{sym, ap, ◌∙◌, arith}
use borrow.Author.Differences.{sum_is_lem, abs_is}
use Rattle.quantity.specs.Group.{Group}
use Rattle.quantity_example.specs.declared.Switch.{Switch}

abbrev pub switch : Bool → Switch
switch b = record { turned = b }

-- one of the two, and not both
abbrev pub either : Bool → Bool → Bool
either true b = not b
either false b = b

abbrev pub odd : ℤ → Bool
odd c = eqb (nat_abs c % 2) 1

pub either_associative : (a b c : Bool) → either (either a b) c ≡ either a (either b c)
either_associative true true true = refl
either_associative true true false = refl
either_associative true false c = refl
either_associative false b c = refl

pub either_commutative : (a b : Bool) → either a b ≡ either b a
either_commutative true true = refl
either_commutative true false = refl
either_commutative false true = refl
either_commutative false false = refl

pub either_itself : (a : Bool) → either a a ≡ false
either_itself true = refl
either_itself false = refl

-- of two numbers that add to 1 just one is 1
pub apart : (m n : ℕ) → m + n ≡ 1 → eqb m 1 ≡ not (eqb n 1)
apart zero n e = let one : n ≡ 1 = omega arith in sym (ap (λ k. not (eqb k 1)) one)
apart (suc zero) n e = let none : n ≡ 0 = omega arith in sym (ap (λ k. not (eqb k 1)) none)
apart (suc (suc m)) n e = absurd (omega arith)

pub odd_next : (c : ℤ) → odd (c +ℤ pos 1) ≡ not (odd c)
odd_next c =
    apart (nat_abs (c +ℤ pos 1) % 2) (nat_abs c % 2) (omega (arith, sum_is_lem c (pos 1), abs_is c, abs_is (c +ℤ pos 1)))

pub one_more : (b a : Bool) → not b && a ≡ either (b && a) a
one_more true true = refl
one_more true false = refl
one_more false a = refl

abbrev pub switches : Group Switch
switches = record {
  zero = switch false;
  sum = λ x y. switch (either x.turned y.turned);
  negation = λ x. x;
  multiple = λ c x. switch (odd c && x.turned);
  associative = λ x y z. ap switch (either_associative x.turned y.turned z.turned);
  commutative = λ x y. ap switch (either_commutative x.turned y.turned);
  neutral = λ x. refl;
  inverse = λ x. ap switch (either_itself x.turned);
  multiple_none = λ x. refl;
  multiple_more = λ c x. ap (λ b. switch (b && x.turned)) (odd_next c) ∙ ap switch (one_more (odd c) x.turned);
}
