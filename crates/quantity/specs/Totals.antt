-- The sum of a list.
use Rattle.std.specs.Prelude.{◌≡◌, List, [], ◌∷◌, ◌++◌, map, ℤ}
use Rattle.std.specs.List.Sorted.{IsPermutation}
use Rattle.quantity.specs.Group.{Group}

abbrev pub total : {K : Type 0} → Group K → List K → K
total 𝓖 [] = 𝓖.zero
total 𝓖 (x ∷ xs) = 𝓖.sum x (total 𝓖 xs)

-- a list may be split, put in another order, negated and multiplied one by one
pub record Totals {K : Type 0} (𝓖 : Group K) : Type 0 where
  pub split : (xs ys : List K) → total 𝓖 (xs ++ ys) ≡ 𝓖.sum (total 𝓖 xs) (total 𝓖 ys)
  pub reordered : (xs ys : List K) → IsPermutation xs ys → total 𝓖 ys ≡ total 𝓖 xs
  pub negated : (xs : List K) → total 𝓖 (map 𝓖.negation xs) ≡ 𝓖.negation (total 𝓖 xs)
  pub multiplied : (c : ℤ) (xs : List K) → total 𝓖 (map (𝓖.multiple c) xs) ≡ 𝓖.multiple c (total 𝓖 xs)
