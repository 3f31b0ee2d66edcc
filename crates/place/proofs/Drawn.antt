-- What passes is drawn, one thing after another.
use Rattle.std.proofs.Common.{◌≡◌, ℕ, zero, suc, ◌+◌, ◌<◌, ◌≤◌, List, [], ◌∷◌, ◌++◌, map, length, take, Some, None, Option, sym, refl, ap, ◌∙◌, arith}
use Rattle.std.specs.List.{slice_get}
use Rattle.std.specs.Option.{option_map, option_or}
use Rattle.std.proofs.lemmas.Bool.{cond-false, lt-leb}
use Rattle.std.proofs.lemmas.List.{append-nil, append_assoc, map_push, length-append, length-map, length-take-le, take-map}
use Rattle.std.proofs.lemmas.Option.{slice_get_within, slice_get-map}
use Rattle.draft.specs.declared.refusals.DraftRefusal.{DraftRefusal}
use Rattle.plan_judging.specs.declared.refusals.PlaceRefusal.{PlaceRefusal}
use Rattle.plan_judging.specs.declared.refusals.PlaceRefusal.TheVariants.{Row as RowRefused, Law as LawRefused}
use Rattle.netlist.specs.declared.rows.Row.{Row}
use Rattle.netlist.specs.declared.terms.RawTerm.{RawTerm}
use Rattle.netlist.specs.declared.terms.Term.{Term}
use Rattle.netlist.specs.Netlist.{Netlist, term_of, term_count, with_nodes, with_rows, with_laws}
use Rattle.netlist.specs.Limits.{most_rows, most_laws, most_terms}
use Rattle.draft.specs.Rules.{table_row, room_row, judge_row, table_law, room_law, judge_law}
use Rattle.refusal.specs.Tests.{first_of}
use Rattle.draft.proofs.Rooms.{room_left}
use Rattle.refusal.proofs.Tables.{passed_over}
use Rattle.plan_judging.specs.Alone.{judge_rows, judge_laws}
use Rattle.plan_judging.proofs.Gathered.{count_next}
use Rattle.plan_judging.proofs.Turns.{take_place}
use Rattle.place.proofs.Counting.{count_append, count_map, count_take}

-- behind what is there, one more of a list
one_more : {X Y : Type 0} (f : X → Y) (old : List Y) (xs : List X) (k : ℕ) (x : X) → slice_get xs k ≡ Some x → (old ++ map f (take k xs)) ++ f x ∷ [] ≡ old ++ map f (take (k + 1) xs)
one_more {X} {Y} f old xs k x at =
    append_assoc old (map f (take k xs)) (f x ∷ [])
    ∙ ap (λ (new : List Y). old ++ new) (sym (ap (map f) (take_place xs k x at) ∙ map_push f (take k xs) x))

module _ {X : Type 0} (b : Netlist) (xs : List X) (k : ℕ) (x : X) (at : slice_get xs k ≡ Some x) where
  pub node_more : (f : X → ℕ) → with_nodes (with_nodes b (map f (take k xs))) (f x ∷ []) ≡ with_nodes b (map f (take (k + 1) xs))
  node_more f = λ i. record b { domains = one_more f b.domains xs k x at i }

  pub row_more : (f : X → Row ℕ) → with_rows (with_rows b (map f (take k xs))) (f x ∷ []) ≡ with_rows b (map f (take (k + 1) xs))
  row_more f = λ i. record b { rows = one_more f b.rows xs k x at i }

-- where nothing is refused, neither is the first nor the rest
nothing : (f : DraftRefusal → PlaceRefusal) (o : Option DraftRefusal) (p : Option PlaceRefusal) → option_or (option_map f o) p ≡ None → (o ≡ None) × (p ≡ None)
nothing f None p h = (refl, h)
nothing f (Some why) p h = let z : ◌≡◌ {A = ℕ} 0 1 = cc in absurd (omega arith)

-- each row passes with those before it drawn
pub row_passed : (b : Netlist) (j : ℕ) (rows : List (Row ℕ)) (k : ℕ) (row : Row ℕ) → judge_rows b j rows ≡ None → slice_get rows k ≡ Some row → first_of (table_row (with_rows b (take k rows)) row) ≡ None
row_passed b j [] k row h at = let z : ◌≡◌ {A = ℕ} 0 1 = cc in absurd (omega arith)
row_passed b j (r ∷ rows) zero row h at =
    let p = nothing (λ why. RowRefused j why) _ _ h in
    let e : r ≡ row = cc in
    ap (λ (rows : List (Row ℕ)). first_of (table_row (record b { rows = rows }) row)) (append-nil b.rows)
    ∙ ap (λ (s : Row ℕ). first_of (table_row b s)) (sym e)
    ∙ p.0
row_passed b j (r ∷ rows) (suc k) row h at =
    let p = nothing (λ why. RowRefused j why) _ _ h in
    ap (λ (rows : List (Row ℕ)). first_of (table_row (record b { rows = rows }) row)) (sym (append_assoc b.rows (r ∷ []) (take k rows)))
    ∙ row_passed (with_rows b (r ∷ [])) (j + 1) rows k row p.1 at

pub row_drawn : (b : Netlist) (row : Row ℕ) → first_of (table_row b row) ≡ None → length b.rows < most_rows → judge_row b row ≡ None
row_drawn b row h room = passed_over (table_row b row) (room_row b.rows) h ∙ cond-false _ _ _ (lt-leb most_rows (length b.rows) room)

pub law_drawn : (b : Netlist) (ts : List (RawTerm ℕ)) → first_of (table_law b.variables ts) ≡ None → length b.laws < most_laws → term_count b.laws + length ts ≤ most_terms → judge_law b ts ≡ None
law_drawn b ts h laws terms = passed_over (table_law b.variables ts) (room_law b.laws (length ts)) h ∙ room_left b.laws (length ts) laws terms

-- each law passes by itself
pub law_passed : (n j : ℕ) (laws : List (List (RawTerm ℕ))) (k : ℕ) (law : List (RawTerm ℕ)) → judge_laws n j laws ≡ None → slice_get laws k ≡ Some law → first_of (table_law n law) ≡ None
law_passed n j [] k law h at = let z : ◌≡◌ {A = ℕ} 0 1 = cc in absurd (omega arith)
law_passed n j (l ∷ laws) zero law h at =
    let e : l ≡ law = cc in
    ap (λ (ts : List (RawTerm ℕ)). first_of (table_law n ts)) (sym e) ∙ (nothing (λ why. LawRefused j why) _ _ h).0
law_passed n j (l ∷ laws) (suc k) law h at = law_passed n (j + 1) laws k law (nothing (λ why. LawRefused j why) _ _ h).1 at

-- the next row, and the next law, of all that have passed
module _ {X : Type 0} (b : Netlist) (f : X → Row ℕ) (xs : List X) (k : ℕ) (x : X) (at : slice_get xs k ≡ Some x) where
  pub next_row : judge_rows b 0 (map f xs) ≡ None → length b.rows + length xs ≤ most_rows → judge_row (with_rows b (map f (take k xs))) (f x) ≡ None
  next_row passed room =
      let within = slice_get_within xs k x at in
      row_drawn (with_rows b (map f (take k xs))) (f x)
      (ap (λ (rows : List (Row ℕ)). first_of (table_row (with_rows b rows) (f x))) (sym (take-map f k xs)) ∙ row_passed b 0 (map f xs) k (f x) passed (slice_get-map f xs k ∙ ap (option_map f) at))
      (omega (arith, length-append b.rows (map f (take k xs)), length-map (take k xs) f, length-take-le k xs (omega arith)))

module _ (b : Netlist) (f : List (RawTerm ℕ) → List (RawTerm ℕ)) (same : (law : List (RawTerm ℕ)) → length (f law) ≡ length law) (xs : List (List (RawTerm ℕ))) (k : ℕ) (x : List (RawTerm ℕ)) (at : slice_get xs k ≡ Some x) where
  -- the laws that are drawn
  abbrev new : List (List Term)
  new = map (map term_of) (map f (take k xs))

  how_many : length new ≡ k
  how_many =
      let within = slice_get_within xs k x at in
      omega (arith, length-map (map f (take k xs)) (map term_of), length-map (take k xs) f, length-take-le k xs (omega arith))

  how_long : term_count new + length (f x) ≤ term_count xs
  how_long = omega (arith, count_map (map term_of) (λ ts. length-map ts term_of) (map f (take k xs)), count_map f same (take k xs), same x, count_next xs k x at, count_take (k + 1) xs)

  pub next_law : judge_laws b.variables 0 (map f xs) ≡ None → length b.laws + length xs ≤ most_laws → term_count b.laws + term_count xs ≤ most_terms → judge_law (with_laws b (map f (take k xs))) (f x) ≡ None
  next_law passed room terms =
      law_drawn (with_laws b (map f (take k xs))) (f x)
      (law_passed b.variables 0 (map f xs) k (f x) passed (slice_get-map f xs k ∙ ap (option_map f) at))
      (omega (arith, length-append b.laws new, how_many, slice_get_within xs k x at))
      (omega (arith, count_append b.laws new, how_long))

  pub law_more : with_laws (with_laws b (map f (take k xs))) (f x ∷ []) ≡ with_laws b (map f (take (k + 1) xs))
  law_more =
      let laws = append_assoc b.laws new (map term_of (f x) ∷ [])
      ∙ ap (λ (ls : List (List Term)). b.laws ++ ls) (sym (ap (λ (ls : List (List (RawTerm ℕ))). map (map term_of) (map f ls)) (take_place xs k x at) ∙ ap (map (map term_of)) (map_push f (take k xs) x) ∙ map_push (map term_of) (map f (take k xs)) (f x))) in
      λ i. record b { laws = laws i }
