-- A map that takes sums to sums takes every operation along.
use Rattle.std.proofs.Common.{◌≡◌, List, [], ◌∷◌, map, ℤ, sym, ap, ◌∙◌}
use Rattle.quantity.specs.Group.{Group, minus}
use Rattle.quantity.specs.Maps.{Respects}
use Rattle.quantity.specs.Totals.{total}
use Rattle.quantity.proofs.Groups.{right, same_from_sum, negation_is}
use Rattle.quantity.proofs.Multiplying.{multiple_is}

module _ {K L : Type 0} (𝓖 : Group K) (𝓗 : Group L) (h : K → L) (sums : (x y : K) → h (𝓖.sum x y) ≡ 𝓗.sum (h x) (h y)) where
  pub map_zero : h 𝓖.zero ≡ 𝓗.zero
  map_zero = same_from_sum 𝓗 (h 𝓖.zero) _ _ (sym (sums _ _) ∙ ap h (𝓖.neutral _) ∙ sym (right 𝓗 _))

  pub map_negation : (x : K) → h (𝓖.negation x) ≡ 𝓗.negation (h x)
  map_negation x = negation_is 𝓗 (h x) _ (sym (sums _ _) ∙ ap h (𝓖.inverse x) ∙ map_zero)

  pub map_minus : (x y : K) → h (minus 𝓖 x y) ≡ minus 𝓗 (h x) (h y)
  map_minus x y = sums x (𝓖.negation y) ∙ ap (𝓗.sum (h x)) (map_negation y)

  pub map_multiple : (c : ℤ) (x : K) → h (𝓖.multiple c x) ≡ 𝓗.multiple c (h x)
  map_multiple c x =
      multiple_is 𝓗 (h x) (λ k. h (𝓖.multiple k x))
      (ap h (𝓖.multiple_none x) ∙ map_zero)
      (λ k. ap h (𝓖.multiple_more k x) ∙ sums (𝓖.multiple k x) x) c

  pub map_total : (xs : List K) → h (total 𝓖 xs) ≡ total 𝓗 (map h xs)
  map_total [] = map_zero
  map_total (x ∷ xs) = sums x (total 𝓖 xs) ∙ ap (𝓗.sum (h x)) (map_total xs)

  pub respects : Respects 𝓖 𝓗 h
  respects = record { zero = map_zero; sum = sums; negation = map_negation; multiple = map_multiple; totals = map_total }
