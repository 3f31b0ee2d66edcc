-- What holds of every element of a list.
use Rattle.std.proofs.Common.{◌≡◌, ℕ, zero, suc, ◌<◌, Bool, true, ◌&&◌, List, [], ◌∷◌, ◌++◌, map, length, get_or, take, drop, refl, ap, arith}
use Rattle.std.proofs.lemmas.Bool.{and_parts, and_from}
use Rattle.std.specs.List.{list_all}

module _ {X : Type 0} (p : X → Bool) where
  pub every_append : (xs ys : List X) → list_all p xs ≡ true → list_all p ys ≡ true → list_all p (xs ++ ys) ≡ true
  every_append [] ys h k = k
  every_append (x ∷ xs) ys h k =
      let both = and_parts (p x) (list_all p xs) h in
      and_from _ _ both.0 (every_append xs ys both.1 k)

  pub every_push : (xs : List X) (x : X) → list_all p xs ≡ true → p x ≡ true → list_all p (xs ++ x ∷ []) ≡ true
  every_push xs x h k = every_append xs (x ∷ []) h (and_from _ _ k refl)

  pub every_take : (n : ℕ) (xs : List X) → list_all p xs ≡ true → list_all p (take n xs) ≡ true
  every_take zero xs h = refl
  every_take (suc n) [] h = refl
  every_take (suc n) (x ∷ xs) h =
      let both = and_parts (p x) (list_all p xs) h in
      and_from _ _ both.0 (every_take n xs both.1)

  pub every_drop : (n : ℕ) (xs : List X) → list_all p xs ≡ true → list_all p (drop n xs) ≡ true
  every_drop zero xs h = h
  every_drop (suc n) [] h = refl
  every_drop (suc n) (x ∷ xs) h = every_drop n xs (and_parts (p x) (list_all p xs) h).1

  pub every_at : (xs : List X) (i : ℕ) (d : X) → i < length xs → list_all p xs ≡ true → p (get_or xs i d) ≡ true
  every_at [] i d l h = absurd (omega arith)
  every_at (x ∷ xs) zero d l h = (and_parts (p x) (list_all p xs) h).0
  every_at (x ∷ xs) (suc i) d l h = every_at xs i d (omega arith) (and_parts (p x) (list_all p xs) h).1

  pub every_weaker : (q : X → Bool) → ((x : X) → p x ≡ true → q x ≡ true) → (xs : List X) → list_all p xs ≡ true → list_all q xs ≡ true
  every_weaker q f [] h = refl
  every_weaker q f (x ∷ xs) h =
      let both = and_parts (p x) (list_all p xs) h in
      and_from _ _ (f x both.0) (every_weaker q f xs both.1)

  pub every_from : ((x : X) → p x ≡ true) → (xs : List X) → list_all p xs ≡ true
  every_from f [] = refl
  every_from f (x ∷ xs) = and_from _ _ (f x) (every_from f xs)

pub every_map : {X Y : Type 0} (p : Y → Bool) (f : X → Y) (xs : List X) → list_all p (map f xs) ≡ list_all (λ x. p (f x)) xs
every_map p f [] = refl
every_map p f (x ∷ xs) = ap (λ (b : Bool). p (f x) && b) (every_map p f xs)
