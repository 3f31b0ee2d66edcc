-- What the laws of a group give for multiples.
use Rattle.std.proofs.Common.{◌≡◌, ℤ, pos, negsuc, ◌+ℤ◌, ◌*ℤ◌, neg_ℤ, sym, refl, ap, ◌∙◌, ap₂}
use lib.IntN.{ℤ_ind, -ℤ-+ℤ_cancel, +ℤ_assoc, +ℤ_idr}
use Rattle.quantity.specs.Group.{Group, minus}
use Rattle.quantity.specs.Integers.{integers}
use Rattle.quantity.specs.Derived.{Multiples}
use Rattle.quantity.proofs.Groups.{same_from_sum', swap_last, swap_middle, negation_is, negation_zero, negation_sum, minus_sum}

module _ {K : Type 0} (𝓖 : Group K) where
  open 𝓖 use {zero, sum, negation, multiple, commutative, neutral, inverse, multiple_none, multiple_more}

  -- what begins at zero and grows by x with each step is the multiple of x
  module _ (x : K) (f : ℤ → K) (none : f (pos 0) ≡ zero) (more : (c : ℤ) → f (c +ℤ pos 1) ≡ sum (f c) x) where
    abbrev Same : ℤ → Type 0
    Same c = f c ≡ multiple c x

    up : (c : ℤ) → Same c → Same (c +ℤ pos 1)
    up c e = more c ∙ ap (λ y. sum y x) e ∙ sym (multiple_more c x)

    from : (c : ℤ) → Same (c +ℤ pos 1) → Same c
    from c e = same_from_sum' 𝓖 (f c) (multiple c x) x (sym (more c) ∙ e ∙ multiple_more c x)

    down : (c : ℤ) → Same c → Same (c +ℤ neg_ℤ (pos 1))
    down c e = from (c +ℤ neg_ℤ (pos 1)) (ap f back ∙ e ∙ ap (λ k. multiple k x) (sym back))
      where
        back : (c +ℤ neg_ℤ (pos 1)) +ℤ pos 1 ≡ c
        back = -ℤ-+ℤ_cancel c (pos 1)

    pub multiple_is : (c : ℤ) → f c ≡ multiple c x
    multiple_is = ℤ_ind Same (none ∙ sym (multiple_none x)) (λ n. up (pos n)) (λ n. down (neg_ℤ (pos n)))

  pub multiple_one : (x : K) → multiple (pos 1) x ≡ x
  multiple_one x = multiple_more (pos 0) x ∙ ap (λ y. sum y x) (multiple_none x) ∙ neutral x

  pub multiple_minus_one : (x : K) → multiple (negsuc 0) x ≡ negation x
  multiple_minus_one x = negation_is 𝓖 x (multiple (negsuc 0) x) (commutative x _ ∙ sym (multiple_more (negsuc 0) x) ∙ multiple_none x)

  pub multiple_zero : (c : ℤ) → multiple c zero ≡ zero
  multiple_zero c = sym (multiple_is zero (λ _. zero) refl (λ _. sym (neutral zero)) c)

  pub multiple_sum : (c : ℤ) (x y : K) → multiple c (sum x y) ≡ sum (multiple c x) (multiple c y)
  multiple_sum c x y =
      sym (multiple_is (sum x y) (λ k. sum (multiple k x) (multiple k y))
      (ap₂ sum (multiple_none x) (multiple_none y) ∙ neutral zero)
      (λ k. ap₂ sum (multiple_more k x) (multiple_more k y) ∙ swap_middle 𝓖 (multiple k x) x (multiple k y) y) c)

  pub multiple_negation : (c : ℤ) (x : K) → multiple c (negation x) ≡ negation (multiple c x)
  multiple_negation c x =
      sym (multiple_is (negation x) (λ k. negation (multiple k x))
      (ap negation (multiple_none x) ∙ negation_zero 𝓖)
      (λ k. ap negation (multiple_more k x) ∙ negation_sum 𝓖 (multiple k x) x) c)

  -- by the sum and by the product of two coefficients
  pub multiple_by_sum : (c d : ℤ) (x : K) → multiple (c +ℤ d) x ≡ sum (multiple c x) (multiple d x)
  multiple_by_sum c d x =
      sym (minus_sum 𝓖 (multiple c x) (multiple (c +ℤ d) x))
      ∙ ap (sum (multiple c x)) (multiple_is x (λ k. minus 𝓖 (multiple (c +ℤ k) x) (multiple c x))
      (ap (λ k. minus 𝓖 (multiple k x) (multiple c x)) (+ℤ_idr c) ∙ inverse (multiple c x))
      (λ k.
      ap (λ j. minus 𝓖 (multiple j x) (multiple c x)) (sym (+ℤ_assoc c k (pos 1)))
      ∙ ap (λ y. minus 𝓖 y (multiple c x)) (multiple_more (c +ℤ k) x)
      ∙ swap_last 𝓖 (multiple (c +ℤ k) x) x (negation (multiple c x))) d)

  pub multiple_by_product : (c d : ℤ) (x : K) → multiple (c *ℤ d) x ≡ multiple c (multiple d x)
  multiple_by_product c d x =
      multiple_is (multiple d x) (λ k. multiple (k *ℤ d) x)
      (ap (λ k. multiple k x) (integers.multiple_none d) ∙ multiple_none x)
      (λ k. ap (λ j. multiple j x) (integers.multiple_more k d) ∙ multiple_by_sum (k *ℤ d) d x) c

  -- one less
  pub multiple_less : (c : ℤ) (x : K) → multiple (c +ℤ neg_ℤ (pos 1)) x ≡ minus 𝓖 (multiple c x) x
  multiple_less c x = multiple_by_sum c (neg_ℤ (pos 1)) x ∙ ap (sum (multiple c x)) (multiple_minus_one x)

  pub multiples : Multiples 𝓖
  multiples = record {
    only = multiple_is;
    by_one = multiple_one;
    by_minus_one = multiple_minus_one;
    by_sum = multiple_by_sum;
    by_product = multiple_by_product;
    of_zero = multiple_zero;
    of_sum = multiple_sum;
    of_negation = multiple_negation;
  }
