-- Lists of laws that are the same up to the order of laws and of the terms of each.
use Rattle.std.proofs.Common.{◌≡◌, ℕ, ◌<◌, List, [], ◌∷◌, length, get_or, set, map, refl, sym, ap, ◌∙◌, subst, subst₂, ap₂, arith}
use Rattle.std.specs.List.{AllByRecursion, flat_map, swap}
use Rattle.std.specs.List.Sorted.{IsPermutation}
use Rattle.std.proofs.lemmas.List.{get_or-map, get_or_default, length-map, map-id, map-set}
use Rattle.std.proofs.lemmas.List.Elements.{Contains-get_or}
use Rattle.std.proofs.lemmas.List.Sorted.{Contains-permutation, IsPermutation-keeps, IsPermutation-swap, IsPermutation-refl, IsPermutation-sym, IsPermutation-map, IsPermutation-trans}
use Rattle.std.proofs.lemmas.Simd.{map-map}
use Rattle.netlist.specs.declared.terms.Term.{Term}
use Rattle.likeness.specs.Alike.{SameLaws}
use Rattle.likeness.proofs.Listing.{all_at, all_from, all_weaker, all_both, all_map, all_of_map, all_flat, all_of_flat, all_reordered, map_same, place_of, names_forth, names_back}
use Rattle.likeness.proofs.Renaming.{of_law}

abbrev Law : Type 0
Law = List Term

abbrev Pair : Type 0
Pair = Law × Law

abbrev Reordered : Pair → Type 0
Reordered p = IsPermutation p.0 p.1

abbrev first : Pair → Law
first p = p.0

abbrev second : Pair → Law
second p = p.1

abbrev twice : Law → Pair
twice law = (law, law)

-- the same laws in another order
pub same_laws : (laws laws' : List Law) → IsPermutation laws laws' → SameLaws laws laws'
same_laws laws laws' s =
    let own : map first (map twice laws) ≡ laws = map-map first twice laws ∙ map-id laws in
    let other : map second (map twice laws) ≡ laws = map-map second twice laws ∙ map-id laws in
    record {
      pairs = map twice laws;
      firsts = subst (IsPermutation laws) (sym own) (IsPermutation-refl laws);
      seconds = subst (λ l. IsPermutation l laws') (sym other) s;
      terms = all_map Reordered twice laws (all_from _ IsPermutation-refl laws);
    }

-- pairs of which the seconds of the ones are the firsts of the others
record Joined (ps qs : List Pair) : Type 0 where
  pairs : List Pair
  firsts : map first pairs ≡ map first ps
  seconds : map second pairs ≡ map second qs
  terms : AllByRecursion Reordered pairs

joined : (ps qs : List Pair) → map second ps ≡ map first qs → AllByRecursion Reordered ps → AllByRecursion Reordered qs → Joined ps qs
joined [] [] e h k = record { pairs = []; firsts = refl; seconds = refl; terms = tt }
joined [] (q ∷ qs) e h k = absurd (cc)
joined (p ∷ ps) [] e h k = absurd (cc)
joined (p ∷ ps) (q ∷ qs) e h k =
    let meet : p.1 ≡ q.0 = cc in
    let rest = joined ps qs (cc) h.1 k.1 in
    record {
      pairs = (p.0, q.1) ∷ rest.pairs;
      firsts = ap (λ l. p.0 ∷ l) rest.firsts;
      seconds = ap (λ l. q.1 ∷ l) rest.seconds;
      terms = (IsPermutation-trans p.0 p.1 q.1 h.0 (subst (λ l. IsPermutation l q.1) (sym meet) k.0), rest.terms);
    }

swap_mapped : (ps : List Pair) (i j : ℕ) → i < length ps → j < length ps → map second (swap ps i j) ≡ swap (map second ps) i j
swap_mapped [] i j p q = refl
swap_mapped (x ∷ ps) i j p q =
    map-set second (set (x ∷ ps) i (get_or (x ∷ ps) j x)) j (get_or (x ∷ ps) i x)
    ∙ ap (λ l. set l j (second (get_or (x ∷ ps) i x))) (map-set second (x ∷ ps) i (get_or (x ∷ ps) j x))
    ∙ ap₂ (λ (u v : Law). set (set (map second (x ∷ ps)) i u) j v) (sym (get_or-map second (x ∷ ps) j x (second x) q)) (sym (get_or-map second (x ∷ ps) i x (second x) p))

-- pairs whose seconds come in another order
reordered_with : (ps : List Pair) (laws : List Law) → IsPermutation (map second ps) laws → (qs : List Pair) × IsPermutation ps qs × (map second qs ≡ laws)
reordered_with ps =
    IsPermutation-keeps (map second ps) (λ laws. (qs : List Pair) × IsPermutation ps qs × (map second qs ≡ laws)) (ps, IsPermutation-refl ps, refl)
    (λ laws i j p q r.
    let long = ap length r.2 in
    let i-in : i < length r.0 = omega (arith, p, long, length-map r.0 second) in
    let j-in : j < length r.0 = omega (arith, q, long, length-map r.0 second) in
    let moved = swap r.0 i j in
    (moved, IsPermutation-trans ps r.0 moved r.1 (IsPermutation-swap r.0 moved i j i-in j-in refl), swap_mapped r.0 i j i-in j-in ∙ ap (λ (l : List Law). swap l i j) r.2))

same_onward : (xs ys zs : List Law) → SameLaws xs ys → SameLaws ys zs → SameLaws xs zs
same_onward xs ys zs s t =
    let link = IsPermutation-trans (map second s.pairs) ys (map first t.pairs) s.seconds t.firsts in
    let moved = reordered_with s.pairs (map first t.pairs) link in
    let whole = joined moved.0 t.pairs moved.2 (all_reordered Reordered s.pairs moved.0 moved.1 s.terms) t.terms in
    record {
      pairs = whole.pairs;
      firsts =
          subst (IsPermutation xs) (sym whole.firsts)
          (IsPermutation-trans xs (map first s.pairs) (map first moved.0) s.firsts (IsPermutation-map first s.pairs moved.0 moved.1));
      seconds = subst (λ l. IsPermutation l zs) (sym whole.seconds) t.seconds;
      terms = whole.terms;
    }

-- under a map of laws that keeps the terms of each together
module _ (g : Law → Law) (keeps : (x y : Law) → IsPermutation x y → IsPermutation (g x) (g y)) where
  abbrev both : Pair → Pair
  both p = (g p.0, g p.1)

  abbrev turned : Pair → Pair
  turned p = (g p.1, g p.0)

  same_mapped : (xs ys : List Law) → SameLaws xs ys → SameLaws (map g xs) (map g ys)
  same_mapped xs ys s =
      let own : map g (map first s.pairs) ≡ map first (map both s.pairs) = map-map g first s.pairs ∙ sym (map-map first both s.pairs) in
      let other : map g (map second s.pairs) ≡ map second (map both s.pairs) = map-map g second s.pairs ∙ sym (map-map second both s.pairs) in
      record {
        pairs = map both s.pairs;
        firsts = subst (IsPermutation (map g xs)) own (IsPermutation-map g xs (map first s.pairs) s.firsts);
        seconds = subst (λ l. IsPermutation l (map g ys)) other (IsPermutation-map g (map second s.pairs) ys s.seconds);
        terms = all_map Reordered both s.pairs (all_weaker Reordered (λ p. Reordered (both p)) (λ p. keeps p.0 p.1) s.pairs s.terms);
      }

  same_turned : (xs ys : List Law) → SameLaws xs ys → SameLaws (map g ys) (map g xs)
  same_turned xs ys s =
      let own : map g (map second s.pairs) ≡ map first (map turned s.pairs) = map-map g second s.pairs ∙ sym (map-map first turned s.pairs) in
      let other : map g (map first s.pairs) ≡ map second (map turned s.pairs) = map-map g first s.pairs ∙ sym (map-map second turned s.pairs) in
      record {
        pairs = map turned s.pairs;
        firsts = subst (IsPermutation (map g ys)) own (IsPermutation-map g ys (map second s.pairs) (IsPermutation-sym (map second s.pairs) ys s.seconds));
        seconds = subst (λ l. IsPermutation l (map g xs)) other (IsPermutation-map g (map first s.pairs) xs (IsPermutation-sym xs (map first s.pairs) s.firsts));
        terms = all_map Reordered turned s.pairs (all_weaker Reordered (λ p. Reordered (turned p)) (λ p h. keeps p.1 p.0 (IsPermutation-sym p.0 p.1 h)) s.pairs s.terms);
      }

  module _ (f : Law → Law) (xs ys : List Law) (s : SameLaws (map f xs) ys) where
    -- where g makes each law again what it was
    pub same_back : AllByRecursion (λ x. g (f x) ≡ x) xs → SameLaws (map g ys) xs
    same_back h =
        subst (SameLaws (map g ys)) (map-map g f xs ∙ map_same (λ x. g (f x)) xs h) (same_turned (map f xs) ys s)

    -- where f and then g make of each law what h makes
    pub same_further : (h : Law → Law) → ((x : Law) → g (f x) ≡ h x) → (zs : List Law) → SameLaws (map g ys) zs → SameLaws (map h xs) zs
    same_further h e zs t =
        subst (λ l. SameLaws l zs) (map-map g f xs ∙ (λ i. map (λ x. e x i) xs))
        (same_onward (map g (map f xs)) (map g ys) zs (same_mapped (map f xs) ys s) t)

module _ (f : Law → Law) (xs ys : List Law) (s : SameLaws (map f xs) ys) where
  -- law j has a law with its terms in the other list
  pub law_place : (j : ℕ) → j < length xs → (i : ℕ) × (i < length ys) × IsPermutation (f (get_or xs j [])) (get_or ys i [])
  law_place j l =
      let at = place_of f xs (map first s.pairs) s.firsts j [] l in
      let k = at.0 in
      let within : k < length s.pairs = omega (arith, at.1, length-map s.pairs first) in
      let long : k < length (map second s.pairs) = omega (arith, within, length-map s.pairs second) in
      let law = get_or (map second s.pairs) k [] in
      let place = Contains-permutation (map second s.pairs) ys law s.seconds (Contains-get_or (map second s.pairs) k [] long) in
      let d : Pair = ([], []) in
      let reordered : IsPermutation (get_or s.pairs k d).0 (get_or s.pairs k d).1 = all_at Reordered s.pairs s.terms k d within in (
        place.0,
        place.1,
        subst₂ (λ (x y : Law). IsPermutation x y)
            (sym (get_or-map first s.pairs k d [] within) ∙ at.2)
            (sym (get_or-map second s.pairs k d [] within) ∙ sym (get_or_default ys place.0 [] law place.1 ∙ place.2))
            reordered,
      )

  module _ (g : ℕ → ℕ) (renames : (x : Law) → of_law (f x) ≡ map g (of_law x)) (P : ℕ → Type 0) where
    abbrev After : Law → Type 0
    After x = AllByRecursion P (of_law x)

    after_too : (x y : Law) → IsPermutation x y → After x → After y
    after_too x y h = all_reordered P (of_law x) (of_law y) (IsPermutation-map (λ (t : Term). t.variable) x y h)

    pub laws_forth : AllByRecursion (λ n. P (g n)) (flat_map of_law xs) → AllByRecursion P (flat_map of_law ys)
    laws_forth h =
        let made = names_forth f xs (map first s.pairs) s.firsts of_law g renames P h in
        let ones = all_of_map After first s.pairs (all_of_flat P of_law (map first s.pairs) made) in
        let others = all_both (λ p. After p.0) Reordered (λ p. After p.1) (λ p a h. after_too p.0 p.1 h a) s.pairs ones s.terms in
        all_flat P of_law ys (all_reordered After (map second s.pairs) ys s.seconds (all_map After second s.pairs others))

    pub laws_back : AllByRecursion P (flat_map of_law ys) → AllByRecursion (λ n. P (g n)) (flat_map of_law xs)
    laws_back h =
        let made = all_of_flat P of_law ys h in
        let others = all_of_map After second s.pairs (all_reordered After ys (map second s.pairs) (IsPermutation-sym (map second s.pairs) ys s.seconds) made) in
        let ones = all_both (λ p. After p.1) Reordered (λ p. After p.0) (λ p a h. after_too p.1 p.0 (IsPermutation-sym p.0 p.1 h) a) s.pairs others s.terms in
        names_back f xs (map first s.pairs) s.firsts of_law g renames P (all_flat P of_law (map first s.pairs) (all_map After first s.pairs ones))
