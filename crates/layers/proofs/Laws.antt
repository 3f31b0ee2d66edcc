-- Laws whose terms are moved.
use Rattle.std.proofs.Common.{◌≡◌, ℕ, ◌-◌, ◌≤◌, true, List, [], ◌∷◌, ◌++◌, map, length, get_or, Some, None, Option, unwrap_or, sym, refl, ap, ◌∙◌}
use Rattle.std.specs.Option.{option_map}
use Rattle.std.specs.List.{slice_get, list_all}
use Rattle.std.proofs.lemmas.List.{length-map, map-append, get_or-append_right}
use Rattle.std.proofs.lemmas.Option.{slice_get-map, unwrap_or-slice_get}
use Rattle.std.proofs.Math.ListN.{get_or-map}
use Rattle.netlist.specs.Sound.{is_term_count}
use Rattle.netlist.proofs.Every.{every_append}
use Rattle.assembly.specs.Plans.{PlanTerm}
use Rattle.assembly.specs.Meaning.{Plan, Bounded}
use Rattle.layers.specs.declared.renumbering.Renumbering.{Renumbering}
use Rattle.layers.specs.Renumbered.{moved_term, moved_laws}

pub mapped_length : {X Y : Type 0} (f : X → Y) (o : Option (List X)) → option_map length (option_map (map f) o) ≡ option_map length o
mapped_length f None = refl
mapped_length f (Some xs) = ap Some (length-map xs f)

nth_moved : {X Y : Type 0} (f : X → Y) (o : Option (List X)) (t : ℕ) → slice_get (unwrap_or (option_map (map f) o) []) t ≡ option_map f (slice_get (unwrap_or o []) t)
nth_moved f None t = refl
nth_moved f (Some xs) t = slice_get-map f xs t

-- a law of the layer is a part's, moved: so are its terms
pub moved_terms : {X Y : Type 0} (f : X → Y) (laws : List (List Y)) (k : ℕ) (old : List (List X)) (j t : ℕ) → slice_get laws k ≡ option_map (map f) (slice_get old j) → slice_get (get_or laws k []) t ≡ option_map f (slice_get (get_or old j []) t)
moved_terms f laws k old j t e =
    ap (λ xs. slice_get xs t) (sym (unwrap_or-slice_get laws k [])) ∙ ap (λ o. slice_get (unwrap_or o []) t) e ∙ nth_moved f (slice_get old j) t
    ∙ ap (λ xs. option_map f (slice_get xs t)) (unwrap_or-slice_get old j [])

pub no_terms : {X : Type 0} (laws : List (List X)) (k t : ℕ) → None ≡ slice_get laws k → None ≡ slice_get (get_or laws k []) t
no_terms laws k t e = ap (λ o. slice_get (unwrap_or o []) t) e ∙ ap (λ xs. slice_get xs t) (unwrap_or-slice_get laws k [])

-- the terms of the second of two lists of laws
pub terms_behind : {X Y : Type 0} (f : X → Y) (laws : List (List Y)) (old : List (List X)) (n k t : ℕ) → n ≡ length laws → n ≤ k → option_map f (slice_get (get_or old (k - n) []) t) ≡ slice_get (get_or (laws ++ map (map f) old) k []) t
terms_behind f laws old n k t e l =
    sym (ap (λ xs. slice_get xs t) (get_or-append_right laws (map (map f) old) n k [] (sym e) l ∙ get_or-map (map f) old (k - n) []) ∙ slice_get-map f (get_or old (k - n) []) t)

-- moved laws are as long as they were
moved_lengths : {X Y : Type 0} (f : X → Y) (laws : List (List X)) → map length (map (map f) laws) ≡ map length laws
moved_lengths f [] = refl
moved_lengths f (law ∷ laws) = (λ i. length-map law f i ∷ moved_lengths f laws i)

pub kept_lengths : (p : Renumbering) (a : Plan) → Bounded a → list_all is_term_count (map length (moved_laws p a)) ≡ true
kept_lengths p a b = ap (list_all is_term_count) (moved_lengths (moved_term p) a.laws) ∙ b.law_lengths

pub joined_lengths : (xs ys : List (List PlanTerm)) → list_all is_term_count (map length xs) ≡ true → list_all is_term_count (map length ys) ≡ true → list_all is_term_count (map length (xs ++ ys)) ≡ true
joined_lengths xs ys h k =
    ap (list_all is_term_count) (map-append length xs ys) ∙ every_append is_term_count (map length xs) (map length ys) h k
