-- What holds of every element of a list, through maps and other orders.
use Rattle.std.proofs.Common.{◌≡◌, ℕ, ◌<◌, List, [], ◌∷◌, ◌++◌, length, get_or, map, refl, sym, ◌∙◌, subst, ap₂, arith}
use Rattle.std.specs.List.{AllByRecursion, flat_map}
use Rattle.std.specs.List.Sorted.{IsPermutation}
use Rattle.std.proofs.lemmas.List.{get_or-map, get_or_default, length-map}
use Rattle.std.proofs.lemmas.List.Elements.{All-from_recursion, recursion_from_All, Contains-get_or}
use Rattle.std.proofs.lemmas.List.Sorted.{All-permutation, Contains-permutation, IsPermutation-sym, IsPermutation-map, IsPermutation-trans}
use Rattle.std.proofs.lemmas.Simd.{map-map}

module _ {X : Type 0} where
  pub all_from : (P : X → Type 0) → ((x : X) → P x) → (xs : List X) → AllByRecursion P xs
  all_from P f [] = tt
  all_from P f (x ∷ xs) = (f x, all_from P f xs)

  pub all_at : (P : X → Type 0) (xs : List X) → AllByRecursion P xs → (i : ℕ) (d : X) → i < length xs → P (get_or xs i d)
  all_at P xs h = All-from_recursion P xs h

  pub all_weaker : (P Q : X → Type 0) → ((x : X) → P x → Q x) → (xs : List X) → AllByRecursion P xs → AllByRecursion Q xs
  all_weaker P Q f [] h = h
  all_weaker P Q f (x ∷ xs) h = (f x h.0, all_weaker P Q f xs h.1)

  pub all_both : (P Q R : X → Type 0) → ((x : X) → P x → Q x → R x) → (xs : List X) → AllByRecursion P xs → AllByRecursion Q xs → AllByRecursion R xs
  all_both P Q R f [] h k = h
  all_both P Q R f (x ∷ xs) h k = (f x h.0 k.0, all_both P Q R f xs h.1 k.1)

  pub all_append : (P : X → Type 0) (xs ys : List X) → AllByRecursion P xs → AllByRecursion P ys → AllByRecursion P (xs ++ ys)
  all_append P [] ys h k = k
  all_append P (x ∷ xs) ys h k = (h.0, all_append P xs ys h.1 k)

  pub all_of_append : (P : X → Type 0) (xs ys : List X) → AllByRecursion P (xs ++ ys) → AllByRecursion P xs × AllByRecursion P ys
  all_of_append P [] ys h = (tt, h)
  all_of_append P (x ∷ xs) ys h = let rest = all_of_append P xs ys h.1 in ((h.0, rest.0), rest.1)

  pub all_reordered : (P : X → Type 0) (xs ys : List X) → IsPermutation xs ys → AllByRecursion P xs → AllByRecursion P ys
  all_reordered P xs ys s h = recursion_from_All P ys (All-permutation P xs ys s (All-from_recursion P xs h))

module _ {X Y : Type 0} (P : Y → Type 0) where
  pub all_map : (f : X → Y) (xs : List X) → AllByRecursion (λ x. P (f x)) xs → AllByRecursion P (map f xs)
  all_map f [] h = h
  all_map f (x ∷ xs) h = (h.0, all_map f xs h.1)

  pub all_of_map : (f : X → Y) (xs : List X) → AllByRecursion P (map f xs) → AllByRecursion (λ x. P (f x)) xs
  all_of_map f [] h = h
  all_of_map f (x ∷ xs) h = (h.0, all_of_map f xs h.1)

  pub all_flat : (f : X → List Y) (xs : List X) → AllByRecursion (λ x. AllByRecursion P (f x)) xs → AllByRecursion P (flat_map f xs)
  all_flat f [] h = h
  all_flat f (x ∷ xs) h = all_append P (f x) (flat_map f xs) h.0 (all_flat f xs h.1)

  pub all_of_flat : (f : X → List Y) (xs : List X) → AllByRecursion P (flat_map f xs) → AllByRecursion (λ x. AllByRecursion P (f x)) xs
  all_of_flat f [] h = h
  all_of_flat f (x ∷ xs) h = let both = all_of_append P (f x) (flat_map f xs) h in (both.0, all_of_flat f xs both.1)

pub map_same : {X : Type 0} (f : X → X) (xs : List X) → AllByRecursion (λ x. f x ≡ x) xs → map f xs ≡ xs
map_same f [] h = refl
map_same f (x ∷ xs) h = ap₂ (λ y ys. y ∷ ys) h.0 (map_same f xs h.1)

-- Lists of which one has, in another order, what f makes of the other's elements.
module _ {X : Type 0} (f : X → X) (xs ys : List X) (s : IsPermutation (map f xs) ys) where
  pub place_of : (j : ℕ) (d : X) → j < length xs → (i : ℕ) × (i < length ys) × (get_or ys i d ≡ f (get_or xs j d))
  place_of j d l =
      let made = get_or (map f xs) j d in
      let place = Contains-permutation (map f xs) ys made s (Contains-get_or (map f xs) j d (omega (arith, length-map xs f))) in
      (place.0, place.1, get_or_default ys place.0 d made place.1 ∙ place.2 ∙ get_or-map f xs j d d l)

  -- where g makes each element again what it was
  pub order_back : (g : X → X) → AllByRecursion (λ x. g (f x) ≡ x) xs → IsPermutation (map g ys) xs
  order_back g h =
      subst (IsPermutation (map g ys)) (map-map g f xs ∙ map_same (λ x. g (f x)) xs h)
      (IsPermutation-map g ys (map f xs) (IsPermutation-sym (map f xs) ys s))

  -- where f and then g make of each element what h makes
  pub order_onward : (g h : X → X) → ((x : X) → g (f x) ≡ h x) → (zs : List X) → IsPermutation (map g ys) zs → IsPermutation (map h xs) zs
  order_onward g h e zs t =
      subst (λ l. IsPermutation l zs) (map-map g f xs ∙ (λ i. map (λ x. e x i) xs))
      (IsPermutation-trans (map g (map f xs)) (map g ys) zs (IsPermutation-map g (map f xs) ys s) t)

  -- Where each element names some things, and f gives them the names that g makes of theirs: what holds of
  -- all names on one side, and on the other.
  module _ {N : Type 0} (names : X → List N) (g : N → N) (renames : (x : X) → names (f x) ≡ map g (names x)) (P : N → Type 0) where
    abbrev After : X → Type 0
    After x = AllByRecursion P (names x)

    abbrev Before : X → Type 0
    Before x = AllByRecursion (λ n. P (g n)) (names x)

    pub names_forth : AllByRecursion (λ n. P (g n)) (flat_map names xs) → AllByRecursion P (flat_map names ys)
    names_forth h =
        let made = all_weaker Before (λ x. After (f x)) (λ x k. subst (AllByRecursion P) (sym (renames x)) (all_map P g (names x) k)) xs (all_of_flat (λ n. P (g n)) names xs h) in
        all_flat P names ys (all_reordered After (map f xs) ys s (all_map After f xs made))

    pub names_back : AllByRecursion P (flat_map names ys) → AllByRecursion (λ n. P (g n)) (flat_map names xs)
    names_back h =
        let made = all_of_map After f xs (all_reordered After ys (map f xs) (IsPermutation-sym (map f xs) ys s) (all_of_flat P names ys h)) in
        all_flat (λ n. P (g n)) names xs (all_weaker (λ x. After (f x)) Before (λ x k. all_of_map P g (names x) (subst (AllByRecursion P) (renames x) k)) xs made)
