-- Rows and laws are judged in turn: one that passes leaves it to the rest, and one that does not decides.
use Rattle.std.proofs.Common.{◌≡◌, ℕ, ◌+◌, List, [], ◌∷◌, ◌++◌, take, drop, Some, None, Option, sym, ap, ◌∙◌}
use Rattle.std.specs.List.{slice_get}
use Rattle.std.specs.Option.{option_map, option_or}
use Rattle.std.proofs.lemmas.List.{at_drop_more, take_more}
use Rattle.std.proofs.lemmas.Option.{slice_get_within, get_or_from_slice_get}
use Rattle.draft.specs.declared.refusals.DraftRefusal.{DraftRefusal}
use Rattle.netlist.specs.declared.rows.Row.{Row}
use Rattle.netlist.specs.declared.terms.RawTerm.{RawTerm}
use Rattle.netlist.specs.Netlist.{Netlist}
use Rattle.draft.specs.Rules.{table_row, table_law}
use Rattle.refusal.specs.Tests.{first_of}
use Rattle.plan_judging.specs.declared.refusals.PlaceRefusal.TheVariants.{Row as RowRefused, Law as LawRefused}
use Rattle.plan_judging.specs.Alone.{judge_rows, judge_laws}

-- what stands at a place of a list
at_place : {X Y : Type 0} (f : List X → Y) (xs : List X) (k : ℕ) (x : X) → slice_get xs k ≡ Some x → f (drop k xs) ≡ f (x ∷ drop (k + 1) xs)
at_place {X} f xs k x h =
    at_drop_more f xs k x (slice_get_within xs k x h) ∙ ap (λ (y : X). f (y ∷ drop (k + 1) xs)) (get_or_from_slice_get xs k x x h)

pub take_place : {X : Type 0} (xs : List X) (k : ℕ) (x : X) → slice_get xs k ≡ Some x → take (k + 1) xs ≡ take k xs ++ x ∷ []
take_place {X} xs k x h =
    take_more xs k x (slice_get_within xs k x h) ∙ ap (λ (y : X). take k xs ++ y ∷ []) (get_or_from_slice_get xs k x x h)

-- a netlist with these rows
abbrev pub with_them : Netlist → List (Row ℕ) → Netlist
with_them b rows = record b { rows = rows }

module _ (b : Netlist) (rows : List (Row ℕ)) (k : ℕ) (row : Row ℕ) (at : slice_get rows k ≡ Some row) where
  turn : judge_rows (with_them b (take k rows)) k (drop k rows) ≡ judge_rows (with_them b (take k rows)) k (row ∷ drop (k + 1) rows)
  turn = at_place (judge_rows (with_them b (take k rows)) k) rows k row at

  pub row_passes : first_of (table_row (with_them b (take k rows)) row) ≡ None → judge_rows (with_them b (take (k + 1) rows)) (k + 1) (drop (k + 1) rows) ≡ judge_rows (with_them b (take k rows)) k (drop k rows)
  row_passes h =
      let rest = judge_rows (with_them b (take k rows ++ row ∷ [])) (k + 1) (drop (k + 1) rows) in
      sym
      (turn
      ∙ ap (λ (o : Option DraftRefusal). option_or (option_map (λ why. RowRefused k why) o) rest) h
      ∙ ap (λ (drawn : List (Row ℕ)). judge_rows (with_them b drawn) (k + 1) (drop (k + 1) rows)) (sym (take_place rows k row at)))

  pub row_stops : (why : DraftRefusal) → first_of (table_row (with_them b (take k rows)) row) ≡ Some why → judge_rows (with_them b (take k rows)) k (drop k rows) ≡ Some (RowRefused k why)
  row_stops why h =
      let rest = judge_rows (with_them b (take k rows ++ row ∷ [])) (k + 1) (drop (k + 1) rows) in
      turn ∙ ap (λ (o : Option DraftRefusal). option_or (option_map (λ why. RowRefused k why) o) rest) h

module _ (n : ℕ) (laws : List (List (RawTerm ℕ))) (k : ℕ) (law : List (RawTerm ℕ)) (at : slice_get laws k ≡ Some law) where
  law_turn : judge_laws n k (drop k laws) ≡ judge_laws n k (law ∷ drop (k + 1) laws)
  law_turn = at_place (judge_laws n k) laws k law at

  pub law_passes : first_of (table_law n law) ≡ None → judge_laws n (k + 1) (drop (k + 1) laws) ≡ judge_laws n k (drop k laws)
  law_passes h =
      let rest = judge_laws n (k + 1) (drop (k + 1) laws) in
      sym (law_turn ∙ ap (λ (o : Option DraftRefusal). option_or (option_map (λ why. LawRefused k why) o) rest) h)

  pub law_stops : (why : DraftRefusal) → first_of (table_law n law) ≡ Some why → judge_laws n k (drop k laws) ≡ Some (LawRefused k why)
  law_stops why h =
      let rest = judge_laws n (k + 1) (drop (k + 1) laws) in
      law_turn ∙ ap (λ (o : Option DraftRefusal). option_or (option_map (λ why. LawRefused k why) o) rest) h
