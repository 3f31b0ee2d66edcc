-- What the laws of a group give for sums, negations and differences.
use Rattle.std.proofs.Common.{◌≡◌, sym, ap, ◌∙◌, ap₂}
use Rattle.quantity.specs.Group.{Group, minus}
use Rattle.quantity.specs.Derived.{Negations}

module _ {K : Type 0} (𝓖 : Group K) where
  open 𝓖 use {zero, sum, negation, associative, commutative, neutral, inverse}

  pub right : (x : K) → sum x zero ≡ x
  right x = commutative x zero ∙ neutral x

  pub inverse_left : (x : K) → sum (negation x) x ≡ zero
  inverse_left x = commutative (negation x) x ∙ inverse x

  pub cancel : (x y : K) → sum (negation x) (sum x y) ≡ y
  cancel x y = sym (associative (negation x) x y) ∙ ap (λ z. sum z y) (inverse_left x) ∙ neutral y

  pub cancel' : (x y : K) → sum x (sum (negation x) y) ≡ y
  cancel' x y = sym (associative x (negation x) y) ∙ ap (λ z. sum z y) (inverse x) ∙ neutral y

  -- what is added on one side can be taken away
  pub same_from_sum : (x y z : K) → sum x y ≡ sum x z → y ≡ z
  same_from_sum x y z e = sym (cancel x y) ∙ ap (sum (negation x)) e ∙ cancel x z

  pub same_from_sum' : (x y z : K) → sum x z ≡ sum y z → x ≡ y
  same_from_sum' x y z e = same_from_sum z x y (commutative z x ∙ e ∙ commutative y z)

  -- two terms, or the middle two of four, change places
  pub swap : (x y z : K) → sum x (sum y z) ≡ sum y (sum x z)
  swap x y z = sym (associative x y z) ∙ ap (λ w. sum w z) (commutative x y) ∙ associative y x z

  pub swap_last : (x y z : K) → sum (sum x y) z ≡ sum (sum x z) y
  swap_last x y z = associative x y z ∙ ap (sum x) (commutative y z) ∙ sym (associative x z y)

  pub swap_middle : (a b c d : K) → sum (sum a b) (sum c d) ≡ sum (sum a c) (sum b d)
  swap_middle a b c d = associative a b (sum c d) ∙ ap (sum a) (swap b c d) ∙ sym (associative a c (sum b d))

  -- what takes x to zero is its negation
  pub negation_is : (x y : K) → sum x y ≡ zero → y ≡ negation x
  negation_is x y e = same_from_sum x y (negation x) (e ∙ sym (inverse x))

  pub negation_zero : negation zero ≡ zero
  negation_zero = sym (negation_is zero zero (neutral zero))

  pub negation_negation : (x : K) → negation (negation x) ≡ x
  negation_negation x = sym (negation_is (negation x) x (inverse_left x))

  pub negation_sum : (x y : K) → negation (sum x y) ≡ sum (negation x) (negation y)
  negation_sum x y =
      sym (negation_is (sum x y) (sum (negation x) (negation y))
      (swap_middle x y (negation x) (negation y) ∙ ap₂ sum (inverse x) (inverse y) ∙ neutral zero))

  pub negations : Negations 𝓖
  negations = record { of_zero = negation_zero; of_negation = negation_negation; of_sum = negation_sum; only = negation_is }

  pub negation_minus : (x y : K) → negation (minus 𝓖 x y) ≡ minus 𝓖 y x
  negation_minus x y = negation_sum x (negation y) ∙ ap (sum (negation x)) (negation_negation y) ∙ commutative (negation x) y

  pub minus_same : (x y : K) → x ≡ y → minus 𝓖 x y ≡ zero
  minus_same x y e = ap (λ z. minus 𝓖 z y) e ∙ inverse y

  pub same_from_minus : (x y : K) → minus 𝓖 x y ≡ zero → x ≡ y
  same_from_minus x y e = same_from_sum' x y (negation y) (e ∙ sym (inverse y))

  -- two differences that meet are one
  pub minus_meet : (x y z : K) → sum (minus 𝓖 x y) (minus 𝓖 y z) ≡ minus 𝓖 x z
  minus_meet x y z = associative x (negation y) (minus 𝓖 y z) ∙ ap (sum x) (cancel y (negation z))

  pub minus_zero : (x : K) → minus 𝓖 x zero ≡ x
  minus_zero x = ap (sum x) negation_zero ∙ right x

  pub sum_minus : (x y : K) → minus 𝓖 (sum x y) y ≡ x
  sum_minus x y = associative x y (negation y) ∙ ap (sum x) (inverse y) ∙ right x

  pub minus_sum : (x y : K) → sum x (minus 𝓖 y x) ≡ y
  minus_sum x y = swap x y (negation x) ∙ ap (sum y) (inverse x) ∙ right y

  -- a shift of both sides leaves the difference
  pub minus_shift : (x y z : K) → minus 𝓖 (sum x z) (sum y z) ≡ minus 𝓖 x y
  minus_shift x y z =
      ap (sum (sum x z)) (negation_sum y z) ∙ swap_middle x z (negation y) (negation z)
      ∙ ap (sum (minus 𝓖 x y)) (inverse z) ∙ right (minus 𝓖 x y)
