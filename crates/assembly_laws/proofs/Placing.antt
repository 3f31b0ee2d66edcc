-- A series that is placed, and its parts placed one by one.
use Rattle.std.proofs.Common.{◌≡◌, ℕ, ◌+◌, ◌<◌, ◌≤◌, List, [], ◌∷◌, ◌++◌, map, length, get_or, sym, refl, ap, ◌∙◌, subst, ⊎_elim, arith}
use Rattle.std.specs.List.{AllByRecursion}
use Rattle.std.proofs.lemmas.Bool.{cases_lt}
use Rattle.std.proofs.lemmas.List.{append-nil, get_or_at, append_assoc, map-append, length-append, length-map, length_push, get_or_append_left}
use Rattle.netlist.specs.declared.domains.Domain.{Domain}
use Rattle.netlist.specs.declared.rows.Row.{Row}
use Rattle.netlist.specs.Renaming.{Renaming, renamed_row}
use Rattle.netlist.specs.Domains.{domain_number}
use Rattle.netlist.specs.declared.terms.Term.{Term}
use Rattle.netlist.specs.Limits.{most_nodes}
use Rattle.netlist.specs.Netlist.{Netlist, with_nodes, term_count, term_of}
use Rattle.netlist.specs.Rows.{uses}
use Rattle.netlist.specs.Sound.{Sound}
use Rattle.assembly.specs.Plans.{PlanRow, PlanTerm}
use Rattle.assembly.specs.Meaning.{Plan, size_in}
use Rattle.layers.specs.declared.renumbering.Renumbering.{Renumbering}
use Rattle.layers.specs.Renumbered.{absent, moved_node, moved_variable, moved_row, moved_term}
use Rattle.series.specs.Series.{in_series, front_place, back_place}
use Rattle.plan_judging.specs.Terms.{counted_on, law_from}
use Rattle.place.specs.Moved.{moved_rows as placed_rows, moved_laws as placed_laws, widened, with_plan}
use Rattle.assembly_laws.specs.ButNodes.{nodes_only, SameButNodes}
use Rattle.assembly_laws.proofs.Turned.{before, behind, before_low, behind_before, before_behind}
use Rattle.assembly_laws.proofs.Alike.{rows_kept}
use Rattle.assembly_laws.proofs.Numbers.{node_there, variable_there, variable_number}
use Rattle.assembly_laws.proofs.Passing.{Names, Kept, RowKept, Passing, passing_from, passing_parts, passing_names, passing_still, passing_judged, uses_kept, uses_append}
use Rattle.assembly_laws.proofs.Renamed.{placed_node, placed_row, in_layer, in_netlist, then, rows_moved, rows_placed, rows_twice, all_parts, all_weaker, all_mapped, all_map, map_same, row_same, row_named, row_kept}
use Rattle.assembly_laws.proofs.Lawful.{LawPasses, Of, laws_as, laws_twice, laws_pass, laws_judged, laws_named, laws_same, laws_still}
use Rattle.assembly_laws.proofs.Nodes.{turned_at, inner_placed, Same, front_node, back_node}
use Rattle.assembly_laws.proofs.Fits.{Seat, Room, Fits, term_count_append, term_count_map}

abbrev pub with_ends : List Domain → Plan → Plan
with_ends ends a = record { ends = ends; inner = a.inner; variables = a.variables; rows = a.rows; laws = a.laws }

-- The rows and laws of a part of a layer that is placed, in the netlist's numbers.
module _ (b : Netlist) (given : List ℕ) (r : Renumbering) where
  abbrev pub through : Renaming
  through = then (in_layer r) (in_netlist b given)

  pub rows_through : (rows : List PlanRow) → map (placed_row b given) (map (moved_row r) rows) ≡ map (renamed_row through) rows
  rows_through rows = ap (map (placed_row b given)) (rows_moved r rows) ∙ rows_placed b given (map (renamed_row (in_layer r)) rows) ∙ rows_twice (in_layer r) (in_netlist b given) rows

  pub laws_through : (laws : List (List PlanTerm)) → laws_as (λ v. b.variables + v) (map (map (moved_term r)) laws) ≡ laws_as (λ v. b.variables + moved_variable r v) laws
  laws_through laws = laws_twice (moved_variable r) (λ v. b.variables + v) laws

module _ (b : Netlist) (p q : ℕ) (x y u v : Domain) (a c : Plan) where
  abbrev pub one : Plan
  one = with_ends (x ∷ y ∷ []) a

  abbrev pub other : Plan
  other = with_ends (u ∷ v ∷ []) c

  abbrev pub whole : Plan
  whole = in_series one other

  abbrev pub front : Renumbering
  front = front_place (size_in one) (size_in other)

  abbrev pub back : Renumbering
  back = back_place (size_in one) (size_in other)

  abbrev pub joined : Netlist
  joined = with_nodes b (domain_number y ∷ [])

  abbrev pub fronted : Netlist
  fronted = with_plan joined (p ∷ length b.domains ∷ []) one

  abbrev pub done : Netlist
  done = with_plan fronted (length b.domains ∷ q ∷ []) other

  abbrev pub placed : Netlist
  placed = with_plan b (p ∷ q ∷ []) whole

  abbrev pub to : ℕ → ℕ
  to = before (length b.domains) (length a.inner + length c.inner)

  -- the rows and laws of the whole, part by part
  pub rows_are : placed_rows b (p ∷ q ∷ []) whole ≡ map (renamed_row (through b (p ∷ q ∷ []) front)) a.rows ++ map (renamed_row (through b (p ∷ q ∷ []) back)) c.rows
  rows_are =
      map-append (placed_row b (p ∷ q ∷ [])) (map (moved_row front) a.rows) (map (moved_row back) c.rows)
      ∙ (λ i. rows_through b (p ∷ q ∷ []) front a.rows i ++ rows_through b (p ∷ q ∷ []) back c.rows i)

  pub laws_are : placed_laws b whole ≡ laws_as (λ v. b.variables + moved_variable front v) a.laws ++ laws_as (λ v. b.variables + moved_variable back v) c.laws
  laws_are =
      map-append _ (map (map (moved_term front)) a.laws) (map (map (moved_term back)) c.laws)
      ∙ (λ i. laws_through b (p ∷ q ∷ []) front a.laws i ++ laws_through b (p ∷ q ∷ []) back c.laws i)

  -- the nodes
  pub nodes_of_front : length joined.domains ≡ length b.domains + 1
  nodes_of_front = length_push b.domains (domain_number y)

  pub nodes_of_back : length fronted.domains ≡ length b.domains + 1 + length a.inner
  nodes_of_back = omega (arith, nodes_of_front, length-append joined.domains (map domain_number a.inner), length-map a.inner domain_number)

  pub inner_of_whole : length whole.inner ≡ length a.inner + length c.inner + 1
  inner_of_whole = omega (arith, length_push (a.inner ++ c.inner) y, length-append a.inner c.inner)

  pub nodes_of_placed : length placed.domains ≡ length b.domains + (length a.inner + length c.inner + 1)
  nodes_of_placed = omega (arith, length-append b.domains (map domain_number whole.inner), length-map whole.inner domain_number, inner_of_whole)

  pub nodes_of_done : length done.domains ≡ length placed.domains
  nodes_of_done = omega (arith, nodes_of_back, nodes_of_placed, length-append fronted.domains (map domain_number c.inner), length-map c.inner domain_number)

  pub domains_are : (n : ℕ) → get_or done.domains (to n) 0 ≡ get_or placed.domains n 0
  domains_are n =
      let is = map domain_number a.inner in
      let js = map domain_number c.inner in
      let long : length (is ++ js) ≡ length a.inner + length c.inner = omega (arith, length-append is js, length-map a.inner domain_number, length-map c.inner domain_number) in
      let inner : map domain_number whole.inner ≡ (is ++ js) ++ (domain_number y ∷ []) =
      map-append domain_number (a.inner ++ c.inner) (y ∷ []) ∙ ap (λ (zs : List ℕ). zs ++ (domain_number y ∷ [])) (map-append domain_number a.inner c.inner) in
      ap (λ (zs : List ℕ). get_or zs (to n) 0) (append_assoc joined.domains is js)
      ∙ ap (λ k. get_or (joined.domains ++ (is ++ js)) (before (length b.domains) k n) 0) (sym long)
      ∙ turned_at b.domains (is ++ js) (domain_number y) n
      ∙ ap (λ (zs : List ℕ). get_or (b.domains ++ zs) n 0) (sym inner)

  -- how much there is
  pub row_count : length whole.rows ≡ length a.rows + length c.rows
  row_count = omega (arith, length-append (map (moved_row front) a.rows) (map (moved_row back) c.rows), length-map a.rows (moved_row front), length-map c.rows (moved_row back))

  pub law_count : length whole.laws ≡ length a.laws + length c.laws
  law_count = omega (arith, length-append (map (map (moved_term front)) a.laws) (map (map (moved_term back)) c.laws), length-map a.laws (map (moved_term front)), length-map c.laws (map (moved_term back)))

  pub term_total : term_count whole.laws ≡ term_count a.laws + term_count c.laws
  term_total = omega (arith, term_count_append (map (map (moved_term front)) a.laws) (map (map (moved_term back)) c.laws), term_count_map (moved_term front) a.laws, term_count_map (moved_term back) c.laws)

  pub rows_of_fronted : length fronted.rows ≡ length b.rows + length a.rows
  rows_of_fronted =
      length-append b.rows (placed_rows joined (p ∷ length b.domains ∷ []) one) ∙ ap (λ n. length b.rows + n) (length-map a.rows (placed_row joined (p ∷ length b.domains ∷ [])))

  pub laws_of_fronted : length fronted.laws ≡ length b.laws + length a.laws
  laws_of_fronted =
      length-append b.laws (map (map term_of) (placed_laws joined one))
      ∙ ap (λ n. length b.laws + n) (length-map (placed_laws joined one) (map term_of) ∙ length-map a.laws (law_from b.variables))

  pub terms_of_fronted : term_count fronted.laws ≡ term_count b.laws + term_count a.laws
  terms_of_fronted =
      term_count_append b.laws (map (map term_of) (placed_laws joined one))
      ∙ ap (λ n. term_count b.laws + n) (term_count_map term_of (placed_laws joined one) ∙ term_count_map (counted_on b.variables) a.laws)

  module _ (fits : Fits b p q x v whole) where
    pub few : length b.domains + (length a.inner + length c.inner + 1) ≤ most_nodes
    few = omega (arith, fits.room.nodes, inner_of_whole)

    there : (num : ℕ) → placed_node b (p ∷ q ∷ []) num < length placed.domains → num < absent
    there num l = ⊎_elim (λ h. h) (λ h. absurd (omega (arith, few, nodes_of_placed, inner_placed b p q num (omega arith)))) (cases_lt num absent)

    front_at : (k : ℕ) → k < 2 + length a.inner → Same to (length b.domains + (length a.inner + length c.inner + 1)) (length b.domains + 1 + length a.inner) (placed_node b (p ∷ q ∷ []) (moved_node front k)) (placed_node joined (p ∷ length b.domains ∷ []) k)
    front_at = front_node b p q fits.first.drawn fits.second.drawn (size_in one) (size_in other) joined nodes_of_front

    back_at : (k : ℕ) → k < 2 + length c.inner → Same to (length b.domains + (length a.inner + length c.inner + 1)) (length b.domains + 1 + length a.inner + length c.inner) (placed_node b (p ∷ q ∷ []) (moved_node back k)) (placed_node fronted (length b.domains ∷ q ∷ []) k)
    back_at = back_node b p q fits.first.drawn fits.second.drawn (size_in one) (size_in other) fronted nodes_of_back

    passing : Passing placed.domains placed.variables (uses b.rows) (map (renamed_row (through b (p ∷ q ∷ []) front)) a.rows ++ map (renamed_row (through b (p ∷ q ∷ []) back)) c.rows)
    passing = subst (Passing placed.domains placed.variables (uses b.rows)) rows_are (passing_from (widened b whole) 0 (placed_rows b (p ∷ q ∷ []) whole) fits.rows)

    both : Passing placed.domains placed.variables (uses b.rows) (map (renamed_row (through b (p ∷ q ∷ []) front)) a.rows) × Passing placed.domains placed.variables (λ v. uses b.rows v + uses (map (renamed_row (through b (p ∷ q ∷ []) front)) a.rows) v) (map (renamed_row (through b (p ∷ q ∷ []) back)) c.rows)
    both = passing_parts placed.domains placed.variables (uses b.rows) (map (renamed_row (through b (p ∷ q ∷ []) front)) a.rows) (map (renamed_row (through b (p ∷ q ∷ []) back)) c.rows) passing

    -- what a part's rows name, the part has
    front_names : AllByRecursion (Names (2 + length a.inner) a.variables) a.rows
    front_names =
        all_weaker (λ row. Names (length placed.domains) placed.variables (renamed_row (through b (p ∷ q ∷ []) front) row)) (Names (2 + length a.inner) a.variables)
        (row_named (through b (p ∷ q ∷ []) front) (2 + length a.inner) a.variables (length placed.domains) placed.variables
        (λ k l. node_there front k (there (moved_node front k) l)) (λ v l. variable_there front v (omega (arith, fits.room.variables))))
        a.rows
        (all_mapped (renamed_row (through b (p ∷ q ∷ []) front)) (Names (length placed.domains) placed.variables) a.rows (passing_names placed.domains placed.variables (uses b.rows) _ both.0))

    back_names : AllByRecursion (Names (2 + length c.inner) c.variables) c.rows
    back_names =
        all_weaker (λ row. Names (length placed.domains) placed.variables (renamed_row (through b (p ∷ q ∷ []) back) row)) (Names (2 + length c.inner) c.variables)
        (row_named (through b (p ∷ q ∷ []) back) (2 + length c.inner) c.variables (length placed.domains) placed.variables
        (λ k l. node_there back k (there (moved_node back k) l)) (λ v l. variable_there back v (omega (arith, fits.room.variables))))
        c.rows
        (all_mapped (renamed_row (through b (p ∷ q ∷ []) back)) (Names (length placed.domains) placed.variables) c.rows (passing_names placed.domains placed.variables (λ v. uses b.rows v + uses (map (renamed_row (through b (p ∷ q ∷ []) front)) a.rows) v) _ both.1))

    -- with other numbers for nodes, they are the rows of the part that is placed alone
    front_rows : map (renamed_row (nodes_only to)) (map (renamed_row (through b (p ∷ q ∷ []) front)) a.rows) ≡ placed_rows joined (p ∷ length b.domains ∷ []) one
    front_rows =
        rows_twice (through b (p ∷ q ∷ []) front) (nodes_only to) a.rows
        ∙ map_same (renamed_row (then (through b (p ∷ q ∷ []) front) (nodes_only to))) (renamed_row (in_netlist joined (p ∷ length b.domains ∷ []))) (Names (2 + length a.inner) a.variables)
        (row_same (then (through b (p ∷ q ∷ []) front) (nodes_only to)) (2 + length a.inner) a.variables (in_netlist joined (p ∷ length b.domains ∷ []))
        (λ k l. (front_at k l).is) (λ v l. omega (arith, variable_number front v l)))
        a.rows front_names
        ∙ sym (rows_placed joined (p ∷ length b.domains ∷ []) a.rows)

    back_rows : map (renamed_row (nodes_only to)) (map (renamed_row (through b (p ∷ q ∷ []) back)) c.rows) ≡ placed_rows fronted (length b.domains ∷ q ∷ []) other
    back_rows =
        rows_twice (through b (p ∷ q ∷ []) back) (nodes_only to) c.rows
        ∙ map_same (renamed_row (then (through b (p ∷ q ∷ []) back) (nodes_only to))) (renamed_row (in_netlist fronted (length b.domains ∷ q ∷ []))) (Names (2 + length c.inner) c.variables)
        (row_same (then (through b (p ∷ q ∷ []) back) (nodes_only to)) (2 + length c.inner) c.variables (in_netlist fronted (length b.domains ∷ q ∷ []))
        (λ k l. (back_at k l).is) (λ v l. omega (arith, variable_number back v l)))
        c.rows back_names
        ∙ sym (rows_placed fronted (length b.domains ∷ q ∷ []) c.rows)

    -- and so are the laws
    law_parts : AllByRecursion (LawPasses placed.variables) (laws_as (λ v. b.variables + moved_variable front v) a.laws) × AllByRecursion (LawPasses placed.variables) (laws_as (λ v. b.variables + moved_variable back v) c.laws)
    law_parts =
        all_parts (LawPasses placed.variables) (laws_as (λ v. b.variables + moved_variable front v) a.laws) (laws_as (λ v. b.variables + moved_variable back v) c.laws)
        (subst (AllByRecursion (LawPasses placed.variables)) laws_are (laws_pass placed.variables 0 (placed_laws b whole) fits.laws))

    front_of : AllByRecursion (Of a.variables) a.laws
    front_of = laws_named (λ v. b.variables + moved_variable front v) a.variables placed.variables (λ v l. variable_there front v (omega (arith, fits.room.variables))) a.laws law_parts.0

    back_of : AllByRecursion (Of c.variables) c.laws
    back_of = laws_named (λ v. b.variables + moved_variable back v) c.variables placed.variables (λ v l. variable_there back v (omega (arith, fits.room.variables))) c.laws law_parts.1

    front_laws : laws_as (λ v. b.variables + moved_variable front v) a.laws ≡ placed_laws joined one
    front_laws =
        laws_same (λ v. b.variables + moved_variable front v) (λ v. b.variables + v) a.variables (λ v l. omega (arith, variable_number front v l)) a.laws front_of

    back_laws : laws_as (λ v. b.variables + moved_variable back v) c.laws ≡ placed_laws fronted other
    back_laws =
        laws_same (λ v. b.variables + moved_variable back v) (λ v. b.variables + a.variables + v) c.variables (λ v l. omega (arith, variable_number back v l)) c.laws back_of

    -- the nodes of a part's rows have the same domains here
    kept_in : (es : List ℕ) (js : List ℕ) → es ++ js ≡ done.domains → (k : ℕ) → to k < length es → Kept to placed.domains es k
    kept_in es js e k h =
        (h, sym (get_or_append_left es js 0 (to k) h) ∙ ap (λ (zs : List ℕ). get_or zs (to k) 0) e ∙ domains_are k)

    front_kept : AllByRecursion (RowKept to placed.domains fronted.domains fronted.variables) (map (renamed_row (through b (p ∷ q ∷ []) front)) a.rows)
    front_kept =
        all_map (renamed_row (through b (p ∷ q ∷ []) front)) (RowKept to placed.domains fronted.domains fronted.variables) a.rows
        (all_weaker (Names (2 + length a.inner) a.variables) (λ row. RowKept to placed.domains fronted.domains fronted.variables (renamed_row (through b (p ∷ q ∷ []) front) row))
        (row_kept (through b (p ∷ q ∷ []) front) (2 + length a.inner) a.variables to placed.domains fronted.domains fronted.variables
        (λ k l.
        let s = front_at k l in
        kept_in fronted.domains (map domain_number c.inner) refl (placed_node b (p ∷ q ∷ []) (moved_node front k)) (omega (arith, s.is, s.here_drawn, nodes_of_back)))
        (λ v l. omega (arith, variable_number front v l)))
        a.rows front_names)

    back_kept : AllByRecursion (RowKept to placed.domains done.domains done.variables) (map (renamed_row (through b (p ∷ q ∷ []) back)) c.rows)
    back_kept =
        all_map (renamed_row (through b (p ∷ q ∷ []) back)) (RowKept to placed.domains done.domains done.variables) c.rows
        (all_weaker (Names (2 + length c.inner) c.variables) (λ row. RowKept to placed.domains done.domains done.variables (renamed_row (through b (p ∷ q ∷ []) back) row))
        (row_kept (through b (p ∷ q ∷ []) back) (2 + length c.inner) c.variables to placed.domains done.domains done.variables
        (λ k l.
        let s = back_at k l in
        kept_in done.domains [] (append-nil done.domains) (placed_node b (p ∷ q ∷ []) (moved_node back k)) (omega (arith, s.is, s.here_drawn, nodes_of_placed, nodes_of_done)))
        (λ v l. omega (arith, variable_number back v l)))
        c.rows back_names)

    front_passing : Passing fronted.domains fronted.variables (uses b.rows) (placed_rows joined (p ∷ length b.domains ∷ []) one)
    front_passing =
        subst (Passing fronted.domains fronted.variables (uses b.rows)) front_rows
        (passing_still to placed.domains fronted.domains placed.variables fronted.variables (uses b.rows) (map (renamed_row (through b (p ∷ q ∷ []) front)) a.rows) both.0 front_kept)

    used_by : (v : ℕ) → uses b.rows v + uses (map (renamed_row (through b (p ∷ q ∷ []) front)) a.rows) v ≡ uses fronted.rows v
    used_by v =
        ap (λ n. uses b.rows v + n) (sym (uses_kept to (map (renamed_row (through b (p ∷ q ∷ []) front)) a.rows) v) ∙ ap (λ rows. uses rows v) front_rows)
        ∙ sym (uses_append b.rows (placed_rows joined (p ∷ length b.domains ∷ []) one) v)

    back_passing : Passing done.domains done.variables (uses fronted.rows) (placed_rows fronted (length b.domains ∷ q ∷ []) other)
    back_passing =
        subst (Passing done.domains done.variables (uses fronted.rows)) back_rows
        (passing_still to placed.domains done.domains placed.variables done.variables (uses fronted.rows) (map (renamed_row (through b (p ∷ q ∷ []) back)) c.rows)
        (subst (λ used. Passing placed.domains placed.variables used (map (renamed_row (through b (p ∷ q ∷ []) back)) c.rows)) (λ i v. used_by v i) both.1) back_kept)

    front_lawful : AllByRecursion (LawPasses fronted.variables) (placed_laws joined one)
    front_lawful =
        subst (AllByRecursion (LawPasses fronted.variables)) front_laws
        (laws_still (λ v. b.variables + moved_variable front v) a.variables placed.variables fronted.variables (λ v l. omega (arith, variable_number front v l)) a.laws front_of law_parts.0)

    back_lawful : AllByRecursion (LawPasses done.variables) (placed_laws fronted other)
    back_lawful =
        subst (AllByRecursion (LawPasses done.variables)) back_laws
        (laws_still (λ v. b.variables + moved_variable back v) c.variables placed.variables done.variables (λ v l. omega (arith, variable_number back v l)) c.laws back_of law_parts.1)

    front_room : Room joined one
    front_room = record {
      nodes = omega (arith, nodes_of_front, few);
      variables = omega (arith, fits.room.variables);
      rows = omega (arith, fits.room.rows, row_count);
      laws = omega (arith, fits.room.laws, law_count);
      terms = omega (arith, fits.room.terms, term_total);
    }

    back_room : Room fronted other
    back_room = record {
      nodes = omega (arith, nodes_of_back, few);
      variables = omega (arith, fits.room.variables);
      rows = omega (arith, fits.room.rows, row_count, rows_of_fronted);
      laws = omega (arith, fits.room.laws, law_count, laws_of_fronted);
      terms = omega (arith, fits.room.terms, term_total, terms_of_fronted);
    }

    -- a node that is drawn keeps its domain where more are drawn
    still_there : (more : List ℕ) (node : ℕ) (end : Domain) → Seat b node end → (node < length (b.domains ++ more)) × (get_or (b.domains ++ more) node 0 ≡ domain_number end)
    still_there more node end s = (omega (arith, s.drawn, length-append b.domains more), get_or_append_left b.domains more 0 node s.drawn ∙ s.alike)

    pub front_fits : Fits joined p (length b.domains) x y one
    front_fits =
        let at = still_there (domain_number y ∷ []) p x fits.first in
        record {
          first = record { drawn = at.0; alike = at.1 };
          second = record { drawn = omega (arith, nodes_of_front); alike = get_or_at b.domains (domain_number y) [] 0 (length b.domains) refl };
          rows = passing_judged (widened joined one) 0 (placed_rows joined (p ∷ length b.domains ∷ []) one) front_passing;
          laws = laws_judged fronted.variables 0 (placed_laws joined one) front_lawful;
          room = front_room;
        }

    pub back_fits : domain_number y ≡ domain_number u → Fits fronted (length b.domains) q u v other
    back_fits meets =
        let is = map domain_number a.inner in
        let all : fronted.domains ≡ b.domains ++ (domain_number y ∷ is) = append_assoc b.domains (domain_number y ∷ []) is in
        let at = still_there (domain_number y ∷ is) q v fits.second in
        record {
          first = record {
            drawn = omega (arith, nodes_of_back);
            alike = ap (λ (zs : List ℕ). get_or zs (length b.domains) 0) all ∙ get_or_at b.domains (domain_number y) is 0 (length b.domains) refl ∙ meets;
          };
          second = record { drawn = omega (arith, at.0, ap length all); alike = ap (λ (zs : List ℕ). get_or zs q 0) all ∙ at.1 };
          rows = passing_judged (widened fronted other) 0 (placed_rows fronted (length b.domains ∷ q ∷ []) other) back_passing;
          laws = laws_judged done.variables 0 (placed_laws fronted other) back_lawful;
          room = back_room;
        }

    -- the netlists are the same but for the nodes' numbers
    module _ (sound : Sound b) where
      old : map (renamed_row (nodes_only to)) b.rows ≡ b.rows
      old = rows_kept to b.domains (before_low (length b.domains) (length a.inner + length c.inner)) b.rows sound.joined

      rows_same : map (renamed_row (nodes_only to)) placed.rows ≡ done.rows
      rows_same =
          map-append (renamed_row (nodes_only to)) b.rows (placed_rows b (p ∷ q ∷ []) whole)
          ∙ (λ i. old i ++ map (renamed_row (nodes_only to)) (rows_are i))
          ∙ ap (λ (rows : List (Row ℕ)). b.rows ++ rows) (map-append (renamed_row (nodes_only to)) (map (renamed_row (through b (p ∷ q ∷ []) front)) a.rows) (map (renamed_row (through b (p ∷ q ∷ []) back)) c.rows))
          ∙ (λ i. b.rows ++ (front_rows i ++ back_rows i))
          ∙ sym (append_assoc b.rows (placed_rows joined (p ∷ length b.domains ∷ []) one) (placed_rows fronted (length b.domains ∷ q ∷ []) other))

      laws_same_as : placed.laws ≡ done.laws
      laws_same_as =
          ap (λ (laws : List (List PlanTerm)). b.laws ++ map (map term_of) laws) (laws_are ∙ (λ i. front_laws i ++ back_laws i))
          ∙ ap (λ (laws : List (List Term)). b.laws ++ laws) (map-append (map term_of) (placed_laws joined one) (placed_laws fronted other))
          ∙ sym (append_assoc b.laws (map (map term_of) (placed_laws joined one)) (map (map term_of) (placed_laws fronted other)))

      pub same : SameButNodes to (behind (length b.domains) (length a.inner + length c.inner)) placed done
      same = record {
        back_to = behind_before (length b.domains) (length a.inner + length c.inner);
        to_back = before_behind (length b.domains) (length a.inner + length c.inner);
        count = nodes_of_done;
        domains = domains_are;
        variables = omega arith;
        rows = sym rows_same;
        laws = sym laws_same_as;
      }
