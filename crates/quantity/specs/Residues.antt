-- Integers that are held wrapped are a group.
use Rattle.std.specs.Prelude.{◌≡◌, ℤ, pos, ◌+ℤ◌, ◌*ℤ◌, neg_ℤ}
use Rattle.std.proofs.Common.{sym, ap, ◌∙◌}
use Rattle.std.proofs.Math.IntN.{+ℤ_comm}
use Rattle.quantity.specs.Group.{Group}
use Rattle.quantity.specs.Integers.{integers}

-- each K is that of its value, and to wrap on the way to a sum changes nothing
pub record Wrapping (K : Type 0) : Type 0 where
  pub of : ℤ → K
  pub value : K → ℤ
  pub of_value : (x : K) → of (value x) ≡ x
  pub wrap_left : (a b : ℤ) → of (value (of a) +ℤ b) ≡ of (a +ℤ b)

module _ {K : Type 0} (W : Wrapping K) where
  pub wrap_right : (a b : ℤ) → W.of (a +ℤ W.value (W.of b)) ≡ W.of (a +ℤ b)
  wrap_right a b = ap W.of (+ℤ_comm a (W.value (W.of b))) ∙ W.wrap_left b a ∙ ap W.of (+ℤ_comm b a)

  -- each operation is that of the integers, wrapped, and so is each law
  abbrev pub residues : Group K
  residues = record {
    zero = W.of (pos 0);
    sum = λ x y. W.of (W.value x +ℤ W.value y);
    negation = λ x. W.of (neg_ℤ (W.value x));
    multiple = λ c x. W.of (c *ℤ W.value x);
    associative = λ x y z.
        W.wrap_left (W.value x +ℤ W.value y) (W.value z)
        ∙ ap W.of (integers.associative (W.value x) (W.value y) (W.value z))
        ∙ sym (wrap_right (W.value x) (W.value y +ℤ W.value z));
    commutative = λ x y. ap W.of (integers.commutative (W.value x) (W.value y));
    neutral = λ x. W.wrap_left (pos 0) (W.value x) ∙ ap W.of (integers.neutral (W.value x)) ∙ W.of_value x;
    inverse = λ x. wrap_right (W.value x) (neg_ℤ (W.value x)) ∙ ap W.of (integers.inverse (W.value x));
    multiple_none = λ x. ap W.of (integers.multiple_none (W.value x));
    multiple_more = λ c x.
        ap W.of (integers.multiple_more c (W.value x)) ∙ sym (W.wrap_left (c *ℤ W.value x) (W.value x));
  }
