-- Lists that stand one after another in one table, each known by its length.
use Rattle.std.specs.Prelude.{ℕ, List, [], ◌∷◌, take, drop}
use Rattle.std.specs.List.{flat_map}

-- the table, cut into pieces of these lengths
abbrev pub pieces : {X : Type 0} → List ℕ → List X → List (List X)
pieces [] xs = []
pieces (n ∷ ns) xs = take n xs ∷ pieces ns (drop n xs)

-- the pieces, one after another
abbrev pub flat : {X : Type 0} → List (List X) → List X
flat xss = flat_map (λ xs. xs) xss
