-- What holds of negations and of multiples in every group.
use Rattle.std.specs.Prelude.{◌≡◌, ℤ, pos, negsuc, ◌+ℤ◌, ◌*ℤ◌}
use Rattle.quantity.specs.Group.{Group}

pub record Negations {K : Type 0} (𝓖 : Group K) : Type 0 where
  -- nothing else takes x to zero
  pub only : (x y : K) → 𝓖.sum x y ≡ 𝓖.zero → y ≡ 𝓖.negation x
  pub of_zero : 𝓖.negation 𝓖.zero ≡ 𝓖.zero
  pub of_sum : (x y : K) → 𝓖.negation (𝓖.sum x y) ≡ 𝓖.sum (𝓖.negation x) (𝓖.negation y)
  pub of_negation : (x : K) → 𝓖.negation (𝓖.negation x) ≡ x

pub record Multiples {K : Type 0} (𝓖 : Group K) : Type 0 where
  -- nothing else begins at zero and grows by x with each step
  pub only :
      (x : K) (f : ℤ → K) → f (pos 0) ≡ 𝓖.zero → ((c : ℤ) → f (c +ℤ pos 1) ≡ 𝓖.sum (f c) x)
      → (c : ℤ) → f c ≡ 𝓖.multiple c x
  pub by_one : (x : K) → 𝓖.multiple (pos 1) x ≡ x
  pub by_minus_one : (x : K) → 𝓖.multiple (negsuc 0) x ≡ 𝓖.negation x
  pub by_sum : (c d : ℤ) (x : K) → 𝓖.multiple (c +ℤ d) x ≡ 𝓖.sum (𝓖.multiple c x) (𝓖.multiple d x)
  pub by_product : (c d : ℤ) (x : K) → 𝓖.multiple (c *ℤ d) x ≡ 𝓖.multiple c (𝓖.multiple d x)
  pub of_zero : (c : ℤ) → 𝓖.multiple c 𝓖.zero ≡ 𝓖.zero
  pub of_sum : (c : ℤ) (x y : K) → 𝓖.multiple c (𝓖.sum x y) ≡ 𝓖.sum (𝓖.multiple c x) (𝓖.multiple c y)
  pub of_negation : (c : ℤ) (x : K) → 𝓖.multiple c (𝓖.negation x) ≡ 𝓖.negation (𝓖.multiple c x)
