-- What a kind of quantity is: an abelian group, with its multiples by the integers.
use Rattle.std.specs.Prelude.{◌≡◌, ℤ, pos, ◌+ℤ◌}

-- The operations with their laws: whoever names a group has proved them.
pub record Group (K : Type 0) : Type 0 where
  pub zero : K
  pub sum : K → K → K
  pub negation : K → K
  pub multiple : ℤ → K → K
  pub associative : (x y z : K) → sum (sum x y) z ≡ sum x (sum y z)
  pub commutative : (x y : K) → sum x y ≡ sum y x
  pub neutral : (x : K) → sum zero x ≡ x
  pub inverse : (x : K) → sum x (negation x) ≡ zero
  pub multiple_none : (x : K) → multiple (pos 0) x ≡ zero
  -- of every integer c, so it says what a negative multiple is too
  pub multiple_more : (c : ℤ) (x : K) → multiple (c +ℤ pos 1) x ≡ sum (multiple c x) x

-- x less y
abbrev pub minus : {K : Type 0} → Group K → K → K → K
minus 𝓖 x y = 𝓖.sum x (𝓖.negation y)
