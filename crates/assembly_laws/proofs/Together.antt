-- Parts that can be placed one by one, and the series of them.
use Rattle.std.proofs.Common.{◌≡◌, ℕ, ◌+◌, ◌<◌, true, List, [], ◌∷◌, ◌++◌, map, length, get_or, sym, refl, ap, ◌∙◌, subst, ⊎_elim, arith}
use Rattle.std.specs.List.{AllByRecursion}
use Rattle.std.proofs.lemmas.Bool.{cases_lt}
use Rattle.std.proofs.lemmas.List.{append_assoc, append-nil, length-append, length-map, get_or_append_left, get_or_at}
use Rattle.netlist.specs.declared.domains.Domain.{Domain}
use Rattle.netlist.specs.Renaming.{Renaming, renamed_row}
use Rattle.netlist.specs.Domains.{domain_number}
use Rattle.netlist.specs.Netlist.{Netlist}
use Rattle.netlist.specs.Rows.{uses}
use Rattle.assembly.specs.Meaning.{Plan, size_in, is_small}
use Rattle.layers.proofs.Small.{small_from}
use Rattle.place.specs.Moved.{moved_rows as placed_rows, moved_laws as placed_laws, widened}
use Rattle.assembly_laws.specs.ButNodes.{nodes_only}
use Rattle.assembly_laws.proofs.Turned.{behind, behind_before}
use Rattle.assembly_laws.proofs.Numbers.{variable_number}
use Rattle.assembly_laws.proofs.Passing.{Names, Kept, RowKept, Passing, passing_from, passing_joined, passing_names, passing_still, passing_judged, uses_kept, uses_append}
use Rattle.assembly_laws.proofs.Renamed.{placed_node, in_netlist, then, rows_placed, rows_twice, all_joined, all_weaker, all_mapped, all_map, map_same, row_same, row_named, row_kept}
use Rattle.assembly_laws.proofs.Lawful.{LawPasses, Of, laws_as, laws_pass, laws_judged, laws_named, laws_same, laws_still}
use Rattle.assembly_laws.proofs.Nodes.{inner_placed, Same, front_node, back_node}
use Rattle.assembly_laws.proofs.Fits.{Room, Fits}
use Rattle.assembly_laws.proofs.Placing.{through, one as one_at, other as other_at, whole as whole_at, front, back, joined as joined_at, fronted as fronted_at, done as done_at, placed as placed_at, to, rows_are, laws_are, nodes_of_front, nodes_of_back, inner_of_whole, nodes_of_placed, nodes_of_done, domains_are, row_count, law_count, term_total, rows_of_fronted, laws_of_fronted, terms_of_fronted}

-- What a plan's rows and laws name, the plan has, where they pass on a netlist with its nodes and variables alone.
module _ (c : Netlist) (p q : ℕ) (a : Plan) where
  named_rows : (used : ℕ → ℕ) → Passing (widened c a).domains (c.variables + a.variables) used (placed_rows c (p ∷ q ∷ []) a) → AllByRecursion (Names (2 + length a.inner) a.variables) a.rows
  named_rows used h =
      let f = in_netlist c (p ∷ q ∷ []) in
      let ds = (widened c a).domains in
      let n = c.variables + a.variables in
      let long : length ds ≡ length c.domains + length a.inner = omega (arith, length-append c.domains (map domain_number a.inner), length-map a.inner domain_number) in
      let inside : (k : ℕ) → placed_node c (p ∷ q ∷ []) k < length ds → k < 2 + length a.inner =
      λ k l. ⊎_elim (λ h. h) (λ past. absurd (omega (arith, inner_placed c p q k (omega arith)))) (cases_lt k (2 + length a.inner)) in
      all_weaker (λ row. Names (length ds) n (renamed_row f row)) (Names (2 + length a.inner) a.variables)
      (row_named f (2 + length a.inner) a.variables (length ds) n inside (λ v l. omega arith)) a.rows
      (all_mapped (renamed_row f) (Names (length ds) n) a.rows (subst (AllByRecursion (Names (length ds) n)) (rows_placed c (p ∷ q ∷ []) a.rows) (passing_names ds n used (placed_rows c (p ∷ q ∷ []) a) h)))

  named_laws : AllByRecursion (LawPasses (c.variables + a.variables)) (placed_laws c a) → AllByRecursion (Of a.variables) a.laws
  named_laws h = laws_named (λ v. c.variables + v) a.variables (c.variables + a.variables) (λ v l. omega arith) a.laws h

module _ (b : Netlist) (p q : ℕ) (x y u v : Domain) (a c : Plan) (pl : p < length b.domains) (ql : q < length b.domains) where
  abbrev one : Plan
  one = one_at b p q x y u v a c

  abbrev other : Plan
  other = other_at b p q x y u v a c

  abbrev whole : Plan
  whole = whole_at b p q x y u v a c

  abbrev joined : Netlist
  joined = joined_at b p q x y u v a c

  abbrev fronted : Netlist
  fronted = fronted_at b p q x y u v a c

  abbrev done : Netlist
  done = done_at b p q x y u v a c

  abbrev placed : Netlist
  placed = placed_at b p q x y u v a c

  abbrev as_front : Renaming
  as_front = through b (p ∷ q ∷ []) (front b p q x y u v a c)

  abbrev as_back : Renaming
  as_back = through b (p ∷ q ∷ []) (back b p q x y u v a c)

  abbrev back_again : ℕ → ℕ
  back_again = behind (length b.domains) (length a.inner + length c.inner)

  module _ (first : Fits joined p (length b.domains) x y one) (second : Fits fronted (length b.domains) q u v other) where
    front_at : (k : ℕ) → k < 2 + length a.inner → Same (to b p q x y u v a c) (length b.domains + (length a.inner + length c.inner + 1)) (length b.domains + 1 + length a.inner) (as_front.node k) (placed_node joined (p ∷ length b.domains ∷ []) k)
    front_at = front_node b p q pl ql (size_in one) (size_in other) joined (nodes_of_front b p q x y u v a c)

    back_at : (k : ℕ) → k < 2 + length c.inner → Same (to b p q x y u v a c) (length b.domains + (length a.inner + length c.inner + 1)) (length b.domains + 1 + length a.inner + length c.inner) (as_back.node k) (placed_node fronted (length b.domains ∷ q ∷ []) k)
    back_at = back_node b p q pl ql (size_in one) (size_in other) fronted (nodes_of_back b p q x y u v a c)

    front_passing : Passing fronted.domains fronted.variables (uses b.rows) (placed_rows joined (p ∷ length b.domains ∷ []) one)
    front_passing = passing_from (widened joined one) 0 (placed_rows joined (p ∷ length b.domains ∷ []) one) first.rows

    back_passing : Passing done.domains done.variables (uses fronted.rows) (placed_rows fronted (length b.domains ∷ q ∷ []) other)
    back_passing = passing_from (widened fronted other) 0 (placed_rows fronted (length b.domains ∷ q ∷ []) other) second.rows

    front_names : AllByRecursion (Names (2 + length a.inner) a.variables) a.rows
    front_names = named_rows joined p (length b.domains) one (uses b.rows) front_passing

    back_names : AllByRecursion (Names (2 + length c.inner) c.variables) c.rows
    back_names = named_rows fronted (length b.domains) q other (uses fronted.rows) back_passing

    -- a node's number in the series, from the one here
    undone : {there here : ℕ} {top low : ℕ} → Same (to b p q x y u v a c) top low there here → back_again here ≡ there
    undone {there} {here} s = ap back_again (sym s.is) ∙ behind_before (length b.domains) (length a.inner + length c.inner) there

    front_rows : map (renamed_row (nodes_only back_again)) (placed_rows joined (p ∷ length b.domains ∷ []) one) ≡ map (renamed_row as_front) a.rows
    front_rows =
        let h = in_netlist joined (p ∷ length b.domains ∷ []) in
        ap (map (renamed_row (nodes_only back_again))) (rows_placed joined (p ∷ length b.domains ∷ []) a.rows) ∙ rows_twice h (nodes_only back_again) a.rows
        ∙ map_same (renamed_row (then h (nodes_only back_again))) (renamed_row as_front) (Names (2 + length a.inner) a.variables)
        (row_same (then h (nodes_only back_again)) (2 + length a.inner) a.variables as_front (λ k l. undone (front_at k l)) (λ w l. omega (arith, variable_number (front b p q x y u v a c) w l)))
        a.rows front_names

    back_rows : map (renamed_row (nodes_only back_again)) (placed_rows fronted (length b.domains ∷ q ∷ []) other) ≡ map (renamed_row as_back) c.rows
    back_rows =
        let h = in_netlist fronted (length b.domains ∷ q ∷ []) in
        ap (map (renamed_row (nodes_only back_again))) (rows_placed fronted (length b.domains ∷ q ∷ []) c.rows) ∙ rows_twice h (nodes_only back_again) c.rows
        ∙ map_same (renamed_row (then h (nodes_only back_again))) (renamed_row as_back) (Names (2 + length c.inner) c.variables)
        (row_same (then h (nodes_only back_again)) (2 + length c.inner) c.variables as_back (λ k l. undone (back_at k l)) (λ w l. omega (arith, variable_number (back b p q x y u v a c) w l)))
        c.rows back_names

    -- a node here, as far as it has been drawn, is a node of the series with the same domain
    kept_back : (es js : List ℕ) → es ++ js ≡ done.domains → {there here : ℕ} {low : ℕ} → Same (to b p q x y u v a c) (length b.domains + (length a.inner + length c.inner + 1)) low there here → here < length es → Kept back_again es placed.domains here
    kept_back es js e {there} {here} s l =
        let within : there < length placed.domains = omega (arith, s.drawn, nodes_of_placed b p q x y u v a c) in (
          omega (arith, within, undone s),
          ap (λ n. get_or placed.domains n 0) (undone s) ∙ sym (domains_are b p q x y u v a c there) ∙ ap (λ n. get_or done.domains n 0) s.is
              ∙ sym (ap (λ (zs : List ℕ). get_or zs here 0) e) ∙ get_or_append_left es js 0 here l,
        )

    front_kept : AllByRecursion (RowKept back_again fronted.domains placed.domains placed.variables) (placed_rows joined (p ∷ length b.domains ∷ []) one)
    front_kept =
        let h = in_netlist joined (p ∷ length b.domains ∷ []) in
        subst (AllByRecursion (RowKept back_again fronted.domains placed.domains placed.variables)) (sym (rows_placed joined (p ∷ length b.domains ∷ []) a.rows))
        (all_map (renamed_row h) (RowKept back_again fronted.domains placed.domains placed.variables) a.rows
        (all_weaker (Names (2 + length a.inner) a.variables) (λ row. RowKept back_again fronted.domains placed.domains placed.variables (renamed_row h row))
        (row_kept h (2 + length a.inner) a.variables back_again fronted.domains placed.domains placed.variables
        (λ k l. let s = front_at k l in kept_back fronted.domains (map domain_number c.inner) refl s (omega (arith, s.here_drawn, nodes_of_back b p q x y u v a c)))
        (λ w l. omega arith))
        a.rows front_names))

    back_kept : AllByRecursion (RowKept back_again done.domains placed.domains placed.variables) (placed_rows fronted (length b.domains ∷ q ∷ []) other)
    back_kept =
        let h = in_netlist fronted (length b.domains ∷ q ∷ []) in
        subst (AllByRecursion (RowKept back_again done.domains placed.domains placed.variables)) (sym (rows_placed fronted (length b.domains ∷ q ∷ []) c.rows))
        (all_map (renamed_row h) (RowKept back_again done.domains placed.domains placed.variables) c.rows
        (all_weaker (Names (2 + length c.inner) c.variables) (λ row. RowKept back_again done.domains placed.domains placed.variables (renamed_row h row))
        (row_kept h (2 + length c.inner) c.variables back_again done.domains placed.domains placed.variables
        (λ k l. let s = back_at k l in kept_back done.domains [] (append-nil done.domains) s (omega (arith, s.here_drawn, nodes_of_placed b p q x y u v a c, nodes_of_done b p q x y u v a c)))
        (λ w l. omega arith))
        c.rows back_names))

    used_by : (w : ℕ) → uses fronted.rows w ≡ uses b.rows w + uses (map (renamed_row as_front) a.rows) w
    used_by w =
        uses_append b.rows (placed_rows joined (p ∷ length b.domains ∷ []) one) w
        ∙ ap (λ n. uses b.rows w + n) (sym (uses_kept back_again (placed_rows joined (p ∷ length b.domains ∷ []) one) w) ∙ ap (λ rows. uses rows w) front_rows)

    rows_pass : Passing placed.domains placed.variables (uses b.rows) (placed_rows b (p ∷ q ∷ []) whole)
    rows_pass =
        let pass_one = subst (Passing placed.domains placed.variables (uses b.rows)) front_rows (passing_still back_again fronted.domains placed.domains fronted.variables placed.variables (uses b.rows) (placed_rows joined (p ∷ length b.domains ∷ []) one) front_passing front_kept) in
        let pass_two = subst (Passing placed.domains placed.variables (uses fronted.rows)) back_rows (passing_still back_again done.domains placed.domains done.variables placed.variables (uses fronted.rows) (placed_rows fronted (length b.domains ∷ q ∷ []) other) back_passing back_kept) in
        subst (Passing placed.domains placed.variables (uses b.rows)) (sym (rows_are b p q x y u v a c))
        (passing_joined placed.domains placed.variables (uses b.rows) (map (renamed_row as_front) a.rows) (map (renamed_row as_back) c.rows) pass_one
        (subst (λ used. Passing placed.domains placed.variables used (map (renamed_row as_back) c.rows)) (λ i w. used_by w i) pass_two))

    front_lawful : AllByRecursion (LawPasses fronted.variables) (placed_laws joined one)
    front_lawful = laws_pass fronted.variables 0 (placed_laws joined one) first.laws

    back_lawful : AllByRecursion (LawPasses done.variables) (placed_laws fronted other)
    back_lawful = laws_pass done.variables 0 (placed_laws fronted other) second.laws

    laws_lawful : AllByRecursion (LawPasses placed.variables) (placed_laws b whole)
    laws_lawful =
        let front_of = named_laws joined p (length b.domains) one front_lawful in
        let back_of = named_laws fronted (length b.domains) q other back_lawful in
        let pass_one = laws_still (λ w. b.variables + w) a.variables fronted.variables placed.variables (λ w l. omega arith) a.laws front_of front_lawful in
        let pass_two = laws_still (λ w. b.variables + a.variables + w) c.variables done.variables placed.variables (λ w l. omega arith) c.laws back_of back_lawful in
        let as_one = laws_same (λ w. b.variables + w) as_front.variable a.variables (λ w l. omega (arith, variable_number (front b p q x y u v a c) w l)) a.laws front_of in
        let as_two = laws_same (λ w. b.variables + a.variables + w) as_back.variable c.variables (λ w l. omega (arith, variable_number (back b p q x y u v a c) w l)) c.laws back_of in
        subst (AllByRecursion (LawPasses placed.variables)) (sym (laws_are b p q x y u v a c))
        (all_joined (LawPasses placed.variables) (laws_as as_front.variable a.laws) (laws_as as_back.variable c.laws)
        (subst (AllByRecursion (LawPasses placed.variables)) as_one pass_one) (subst (AllByRecursion (LawPasses placed.variables)) as_two pass_two))

    room : Room b whole
    room = record {
      nodes = omega (arith, second.room.nodes, nodes_of_back b p q x y u v a c, inner_of_whole b p q x y u v a c);
      variables = omega (arith, second.room.variables);
      rows = omega (arith, second.room.rows, rows_of_fronted b p q x y u v a c, row_count b p q x y u v a c);
      laws = omega (arith, second.room.laws, laws_of_fronted b p q x y u v a c, law_count b p q x y u v a c);
      terms = omega (arith, second.room.terms, terms_of_fronted b p q x y u v a c, term_total b p q x y u v a c);
    }

    -- the series is not void
    pub small : is_small (size_in whole) ≡ true
    small = small_from (size_in whole) (record { nodes = omega (arith, room.nodes); variables = omega (arith, room.variables); rows = omega (arith, room.rows); laws = omega (arith, room.laws) })

    all_nodes : fronted.domains ≡ b.domains ++ (domain_number y ∷ map domain_number a.inner)
    all_nodes = append_assoc b.domains (domain_number y ∷ []) (map domain_number a.inner)

    pub meets : domain_number y ≡ domain_number u
    meets =
        sym (ap (λ (zs : List ℕ). get_or zs (length b.domains) 0) all_nodes ∙ get_or_at b.domains (domain_number y) (map domain_number a.inner) 0 (length b.domains) refl)
        ∙ second.first.alike

    pub whole_fits : Fits b p q x v whole
    whole_fits = record {
      first = record { drawn = pl; alike = sym (get_or_append_left b.domains (domain_number y ∷ []) 0 p pl) ∙ first.first.alike };
      second = record {
        drawn = ql;
        alike = sym (ap (λ (zs : List ℕ). get_or zs q 0) all_nodes ∙ get_or_append_left b.domains (domain_number y ∷ map domain_number a.inner) 0 q ql) ∙ second.second.alike;
      };
      rows = passing_judged (widened b whole) 0 (placed_rows b (p ∷ q ∷ []) whole) rows_pass;
      laws = laws_judged placed.variables 0 (placed_laws b whole) laws_lawful;
      room = room;
    }
