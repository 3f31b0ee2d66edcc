-- A test of every item of a list, as std's chains have it.
use Rattle.std.proofs.Common.{◌≡◌, Bool, ◌&&◌, List, [], ◌∷◌, refl, ap}
use Rattle.std.specs.List.{list_all}

pub all_every : {X : Type 0} (p : X → Bool) (xs : List X) → list_all p xs ≡ list_all p xs
all_every p [] = refl
all_every p (x ∷ xs) = ap (λ (b : Bool). p x && b) (all_every p xs)
