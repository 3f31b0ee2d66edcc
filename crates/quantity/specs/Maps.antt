-- Maps between groups.
use Rattle.std.specs.Prelude.{◌≡◌, List, map, ℤ}
use Rattle.quantity.specs.Group.{Group}
use Rattle.quantity.specs.Totals.{total}

-- h takes each operation of 𝓖 to that of 𝓗, and so the sum of a list to the sum of what it makes of the list
pub record Respects {K L : Type 0} (𝓖 : Group K) (𝓗 : Group L) (h : K → L) : Type 0 where
  pub zero : h 𝓖.zero ≡ 𝓗.zero
  pub sum : (x y : K) → h (𝓖.sum x y) ≡ 𝓗.sum (h x) (h y)
  pub negation : (x : K) → h (𝓖.negation x) ≡ 𝓗.negation (h x)
  pub multiple : (c : ℤ) (x : K) → h (𝓖.multiple c x) ≡ 𝓗.multiple c (h x)
  pub totals : (xs : List K) → h (total 𝓖 xs) ≡ total 𝓗 (map h xs)
