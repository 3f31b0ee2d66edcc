-- The two ends of a plan.
use Rattle.std.proofs.Common.{◌≡◌, List, [], ◌∷◌, length, arith}

-- What holds of any two ends holds of the ends of a plan.
pub by_ends : {X : Type 0} (P : List X → Type 0) → ((x y : X) → P (x ∷ y ∷ [])) → (xs : List X) → length xs ≡ 2 → P xs
by_ends P f [] e = absurd (omega arith)
by_ends P f (x ∷ []) e = absurd (omega arith)
by_ends P f (x ∷ y ∷ []) e = f x y
by_ends P f (x ∷ y ∷ z ∷ xs) e = absurd (omega arith)

pub by_both_ends : {X : Type 0} (P : List X → List X → Type 0) → ((x y u v : X) → P (x ∷ y ∷ []) (u ∷ v ∷ [])) → (xs ys : List X) → length xs ≡ 2 → length ys ≡ 2 → P xs ys
by_both_ends P f xs ys e d =
    by_ends (λ xs. P xs ys) (λ x y. by_ends (P (x ∷ y ∷ [])) (f x y) ys d) xs e
