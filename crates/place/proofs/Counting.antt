-- How many terms laws have together.
use Rattle.std.proofs.Common.{◌≡◌, ℕ, zero, suc, ◌+◌, ◌≤◌, List, [], ◌∷◌, ◌++◌, map, length, take, refl, arith}
use Rattle.netlist.specs.Netlist.{term_count}

pub count_append : {X : Type 0} (xs ys : List (List X)) → term_count (xs ++ ys) ≡ term_count xs + term_count ys
count_append [] ys = omega arith
count_append (x ∷ xs) ys = omega (arith, count_append xs ys)

-- terms that are changed one by one are as many
pub count_map : {X Y : Type 0} (f : List X → List Y) → ((x : List X) → length (f x) ≡ length x) → (xs : List (List X)) → term_count (map f xs) ≡ term_count xs
count_map f same [] = refl
count_map f same (x ∷ xs) = omega (arith, same x, count_map f same xs)

pub count_take : {X : Type 0} (n : ℕ) (xs : List (List X)) → term_count (take n xs) ≤ term_count xs
count_take zero xs = omega arith
count_take (suc n) [] = omega arith
count_take (suc n) (x ∷ xs) = omega (arith, count_take n xs)
