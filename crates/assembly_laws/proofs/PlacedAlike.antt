-- Plans that differ in the numbers of their inner nodes alone are placed alike.
use Rattle.std.proofs.Common.{◌≡◌, ℕ, zero, suc, ◌+◌, ◌-◌, ◌<◌, ◌≤◌, List, [], ◌∷◌, ◌++◌, map, length, get_or, None, Option, unwrap_or, sym, refl, ap, ◌∙◌, subst, ⊎_elim, arith}
use Rattle.std.specs.List.{slice_get}
use Rattle.std.specs.Option.{option_map}
use Rattle.std.proofs.lemmas.Bool.{cases_lt, cases_eq, cond-true, cond-false, lt-ltb, le-ltb}
use Rattle.std.proofs.lemmas.List.{length-append, length-map, map-append, get_or_append_left, get_or-append_right}
use Rattle.std.proofs.lemmas.Option.{slice_get_past, slice_get-map, unwrap_or-slice_get}
use Rattle.netlist.specs.declared.domains.Domain.{Domain}
use Rattle.netlist.specs.declared.rows.Row.{Row}
use Rattle.netlist.specs.declared.rows.Row.TheVariants.{Branch, Earth}
use Rattle.netlist.specs.Renaming.{renamed_row}
use Rattle.netlist.specs.Domains.{domain_number}
use Rattle.netlist.specs.Netlist.{Netlist, term_of, term_count}
use Rattle.netlist.specs.Rows.{uses}
use Rattle.netlist.specs.Sound.{Sound}
use Rattle.assembly.specs.Plans.{PlanRow, PlanTerm}
use Rattle.assembly.specs.Meaning.{void, plan, Plan}
use Rattle.assembly.proofs.Nth.{nth_append_right}
use Rattle.plan_judging.specs.Alone.{judge_laws}
use Rattle.plan_judging.specs.Terms.{law_from}
use Rattle.place.specs.Place.{judge_placing}
use Rattle.place.specs.Moved.{moved_rows as placed_rows, moved_laws as placed_laws, widened, with_plan}
use Rattle.assembly_laws.specs.ButNodes.{nodes_only, SameButNodes, PlanButNodes}
use Rattle.assembly_laws.specs.PlacedAlike.{behind_drawn, FitAlike, AreDrawnAlike}
use Rattle.assembly_laws.proofs.Alike.{same_alike, rows_kept}
use Rattle.assembly_laws.proofs.Associative.{rows_agree}
use Rattle.assembly_laws.proofs.Fits.{Fits, fits_from, fits_judged}
use Rattle.assembly_laws.proofs.Nodes.{inner_placed}
use Rattle.assembly_laws.proofs.Passing.{Names, Kept, RowKept, Passing, passing_from, passing_names, passing_still, passing_judged}
use Rattle.assembly_laws.proofs.Renamed.{placed_node, in_netlist, then, rows_placed, rows_twice, all_weaker}

-- what is past the end of one list is past the end of the other, if the same stands at both places
past_end : {X : Type 0} (xs : List X) (k : ℕ) → slice_get xs k ≡ None → length xs ≤ k
past_end [] k e = omega arith
past_end (x ∷ xs) zero e = absurd (cc)
past_end (x ∷ xs) (suc k) e = let l = past_end xs k e in omega arith

names_kept : (to : ℕ → ℕ) (domains other : List ℕ) (n : ℕ) → ((k : ℕ) → k < length domains → Kept to domains other k) → (row : Row ℕ) → Names (length domains) n row → RowKept to domains other n row
names_kept to domains other n kept (Branch flow across first second) h = (h.0, h.1, kept first h.2, kept second h.3)
names_kept to domains other n kept (Earth flow across node) h = (h.0, h.1, kept node h.2)

ends_are : (xs : List Domain) → length xs ≡ 2 → (x : Domain) × (y : Domain) × (xs ≡ x ∷ y ∷ [])
ends_are [] e = absurd (omega arith)
ends_are (x ∷ []) e = absurd (omega arith)
ends_are (x ∷ y ∷ []) e = (x, y, refl)
ends_are (x ∷ y ∷ z ∷ xs) e = absurd (omega arith)

-- a renaming that changes nothing
unchanged : (row : PlanRow) (to back : ℕ → ℕ) → ((n : ℕ) → back (to n) ≡ n) → renamed_row (nodes_only back) (renamed_row (nodes_only to) row) ≡ row
unchanged (Branch flow across first second) to back e = (λ i. Branch flow across (e first i) (e second i))
unchanged (Earth flow across node) to back e = (λ i. Earth flow across (e node i))

all_unchanged : (rows : List PlanRow) (to back : ℕ → ℕ) → ((n : ℕ) → back (to n) ≡ n) → map (renamed_row (nodes_only back)) (map (renamed_row (nodes_only to)) rows) ≡ rows
all_unchanged [] to back e = refl
all_unchanged (row ∷ rows) to back e = (λ i. unchanged row to back e i ∷ all_unchanged rows to back e i)

other_way : (to back : ℕ → ℕ) (a c : Plan) → PlanButNodes to back a c → PlanButNodes back to c a
other_way to back a c s = record {
  back_to = s.to_back;
  to_back = s.back_to;
  ends = sym s.ends;
  count = sym s.count;
  first = ap back (sym s.first) ∙ s.back_to 0;
  second = ap back (sym s.second) ∙ s.back_to 1;
  domains = λ n. sym (s.domains (back n)) ∙ ap (slice_get (c.ends ++ c.inner)) (s.to_back n);
  variables = sym s.variables;
  rows = sym (ap (map (renamed_row (nodes_only back))) s.rows ∙ all_unchanged a.rows to back s.back_to);
  laws = sym s.laws;
}

-- The numbers in the netlist, of which `drawn` nodes were drawn before.
module _ (drawn : ℕ) (to back : ℕ → ℕ) (back_to : (n : ℕ) → back (to n) ≡ n) (first : to 0 ≡ 0) (second : to 1 ≡ 1) where
  -- an inner node stays one
  inner_to : (k : ℕ) → 2 ≤ k → 2 ≤ to k
  inner_to k l =
      ⊎_elim
      (λ h. ⊎_elim
      (λ (e : to k ≡ 0). let none : k ≡ 0 = sym (back_to k) ∙ ap back (e ∙ sym first) ∙ back_to 0 in absurd (omega arith))
      (λ ne. let e : to k ≡ 1 = omega arith in let one : k ≡ 1 = sym (back_to k) ∙ ap back (e ∙ sym second) ∙ back_to 1 in absurd (omega arith))
      (cases_eq (to k) 0))
      (λ h. h) (cases_lt (to k) 2)

  low : (k : ℕ) → k < drawn → behind_drawn drawn to k ≡ k
  low k l = cond-true _ _ _ (lt-ltb k drawn l)

  high : (k : ℕ) → drawn ≤ k → behind_drawn drawn to k ≡ drawn + (to (2 + (k - drawn)) - 2)
  high k l = cond-false _ _ _ (le-ltb k drawn l)

-- and the one undoes the other
undone : (drawn : ℕ) (to back : ℕ → ℕ) → ((n : ℕ) → back (to n) ≡ n) → to 0 ≡ 0 → to 1 ≡ 1 → back 0 ≡ 0 → back 1 ≡ 1 → (k : ℕ) → behind_drawn drawn back (behind_drawn drawn to k) ≡ k
undone drawn to back back_to first second first' second' k =
    ⊎_elim
    (λ l. ap (behind_drawn drawn back) (low drawn to back back_to first second k l) ∙ cond-true _ _ _ (lt-ltb k drawn l))
    (λ l.
    let j = 2 + (k - drawn) in
    let up = inner_to drawn to back back_to first second j (omega arith) in
    let on : 2 + (drawn + (to j - 2) - drawn) ≡ to j = omega arith in
    ap (behind_drawn drawn back) (high drawn to back back_to first second k l)
    ∙ cond-false _ _ _ (le-ltb (drawn + (to j - 2)) drawn (omega arith)) ∙ ap (λ n. drawn + (back n - 2)) on ∙ ap (λ n. drawn + (n - 2)) (back_to j) ∙ omega arith)
    (cases_lt k drawn)

module _ (b : Netlist) (to back : ℕ → ℕ) (a c : Plan) (same : PlanButNodes to back a c) (p q : ℕ) (x y : Domain) (ends : a.ends ≡ x ∷ y ∷ []) where
  abbrev place : ℕ → ℕ
  place = behind_drawn (length b.domains) to

  abbrev here : Netlist
  here = widened b a

  abbrev there : Netlist
  there = widened b c

  two_ends : length a.ends ≡ 2
  two_ends = ap length ends

  node_same : p < length b.domains → q < length b.domains → (k : ℕ) → place (placed_node b (p ∷ q ∷ []) k) ≡ placed_node b (p ∷ q ∷ []) (to k)
  node_same pl ql zero = low (length b.domains) to back same.back_to same.first same.second p pl ∙ ap (placed_node b (p ∷ q ∷ [])) (sym same.first)
  node_same pl ql (suc zero) = low (length b.domains) to back same.back_to same.first same.second q ql ∙ ap (placed_node b (p ∷ q ∷ [])) (sym same.second)
  node_same pl ql (suc (suc i)) =
      let k = suc (suc i) in
      let at = inner_placed b p q k (omega arith) in
      let on : 2 + (length b.domains + (k - 2) - length b.domains) ≡ k = omega arith in
      ap place at ∙ high (length b.domains) to back same.back_to same.first same.second (length b.domains + (k - 2)) (omega arith) ∙ ap (λ n. length b.domains + (to n - 2)) on
      ∙ sym (inner_placed b p q (to k) (inner_to (length b.domains) to back same.back_to same.first same.second k (omega arith)))

  rows_same : p < length b.domains → q < length b.domains → map (renamed_row (nodes_only place)) (placed_rows b (p ∷ q ∷ []) a) ≡ placed_rows b (p ∷ q ∷ []) c
  rows_same pl ql =
      let f = in_netlist b (p ∷ q ∷ []) in
      ap (map (renamed_row (nodes_only place))) (rows_placed b (p ∷ q ∷ []) a.rows) ∙ rows_twice f (nodes_only place) a.rows
      ∙ rows_agree (then f (nodes_only place)) (then (nodes_only to) f) (node_same pl ql) (λ v. refl) a.rows
      ∙ sym (rows_placed b (p ∷ q ∷ []) c.rows ∙ ap (map (renamed_row f)) same.rows ∙ rows_twice (nodes_only to) f a.rows)

  laws_same : placed_laws b c ≡ placed_laws b a
  laws_same = ap (map (law_from b.variables)) same.laws

  inner_same : (k : ℕ) → 2 ≤ k → slice_get c.inner (to k - 2) ≡ slice_get a.inner (k - 2)
  inner_same k l =
      let up = inner_to (length b.domains) to back same.back_to same.first same.second k l in
      let ends_c : length c.ends ≡ 2 = ap length same.ends ∙ two_ends in
      ap (λ n. slice_get c.inner (to k - n)) (sym ends_c) ∙ sym (nth_append_right c.ends c.inner (to k) (omega arith)) ∙ same.domains k
      ∙ nth_append_right a.ends a.inner k (omega (arith, two_ends)) ∙ ap (λ n. slice_get a.inner (k - n)) two_ends

  domains_same : (k : ℕ) → get_or there.domains (place k) 0 ≡ get_or here.domains k 0
  domains_same k =
      ⊎_elim
      (λ l.
      ap (λ n. get_or there.domains n 0) (low (length b.domains) to back same.back_to same.first same.second k l)
      ∙ get_or_append_left b.domains (map domain_number c.inner) 0 k l ∙ sym (get_or_append_left b.domains (map domain_number a.inner) 0 k l))
      (λ l.
      let j = 2 + (k - length b.domains) in
      let at : length b.domains + (to j - 2) - length b.domains ≡ to j - 2 = omega arith in
      let on : j - 2 ≡ k - length b.domains = omega arith in
      let number : Option Domain → ℕ = λ o. unwrap_or (option_map domain_number o) 0 in
      let read : (ds : List Domain) (n : ℕ) → get_or (map domain_number ds) n 0 ≡ number (slice_get ds n) =
      λ ds n. sym (unwrap_or-slice_get (map domain_number ds) n 0) ∙ ap (λ (o : Option ℕ). unwrap_or o 0) (slice_get-map domain_number ds n) in
      ap (λ n. get_or there.domains n 0) (high (length b.domains) to back same.back_to same.first same.second k l)
      ∙ get_or-append_right b.domains (map domain_number c.inner) (length b.domains) (length b.domains + (to j - 2)) 0 refl (omega arith)
      ∙ ap (λ n. get_or (map domain_number c.inner) n 0) at ∙ read c.inner (to j - 2) ∙ ap number (inner_same j (omega arith)) ∙ ap (λ n. number (slice_get a.inner n)) on
      ∙ sym (get_or-append_right b.domains (map domain_number a.inner) (length b.domains) k 0 refl l ∙ read a.inner (k - length b.domains)))
      (cases_lt k (length b.domains))

  nodes_of : (d : Plan) → length (widened b d).domains ≡ length b.domains + length d.inner
  nodes_of d = omega (arith, length-append b.domains (map domain_number d.inner), length-map d.inner domain_number)

  kept : (k : ℕ) → k < length here.domains → Kept place here.domains there.domains k
  kept k h = (
    ⊎_elim
        (λ l. omega (arith, low (length b.domains) to back same.back_to same.first same.second k l, nodes_of c))
        (λ l.
        let j = 2 + (k - length b.domains) in
        ⊎_elim
        (λ within. omega (arith, high (length b.domains) to back same.back_to same.first same.second k l, within, nodes_of c))
        (λ past.
        let none : slice_get a.inner (j - 2) ≡ None = sym (inner_same j (omega arith)) ∙ slice_get_past c.inner (to j - 2) past in
        absurd (omega (arith, past_end a.inner (j - 2) none, nodes_of a)))
        (cases_lt (to j - 2) (length c.inner)))
        (cases_lt k (length b.domains)),
    domains_same k,
  )

  -- the one fits if the other does
  fits_too : Fits b p q x y a → Fits b p q x y c
  fits_too f =
      let rows = passing_from here 0 (placed_rows b (p ∷ q ∷ []) a) f.rows in
      let names = passing_names here.domains here.variables (uses b.rows) (placed_rows b (p ∷ q ∷ []) a) rows in
      let rows_kept = all_weaker (Names (length here.domains) here.variables) (RowKept place here.domains there.domains here.variables) (names_kept place here.domains there.domains here.variables kept) (placed_rows b (p ∷ q ∷ []) a) names in
      let still = passing_still place here.domains there.domains here.variables here.variables (uses b.rows) (placed_rows b (p ∷ q ∷ []) a) rows rows_kept in
      let moved = map (renamed_row (nodes_only place)) (placed_rows b (p ∷ q ∷ []) a) in
      let passing = subst (λ n. Passing there.domains n (uses b.rows) moved) (ap (λ v. b.variables + v) (sym same.variables)) still in
      let row_count : length c.rows ≡ length a.rows = ap length same.rows ∙ length-map a.rows (renamed_row (nodes_only to)) in
      let law_count : length c.laws ≡ length a.laws = ap length same.laws in
      let terms : term_count c.laws ≡ term_count a.laws = ap (λ (laws : List (List PlanTerm)). term_count laws) same.laws in
      record {
        first = f.first;
        second = f.second;
        rows = passing_judged there 0 (placed_rows b (p ∷ q ∷ []) c) (subst (Passing there.domains there.variables (uses b.rows)) (rows_same f.first.drawn f.second.drawn) passing);
        laws = (λ i. judge_laws (b.variables + same.variables i) 0 (laws_same i)) ∙ f.laws;
        room = record {
          nodes = omega (arith, f.room.nodes, same.count);
          variables = omega (arith, f.room.variables, same.variables);
          rows = omega (arith, f.room.rows, row_count);
          laws = omega (arith, f.room.laws, law_count);
          terms = omega (arith, f.room.terms, terms);
        };
      }

  drawn_too : Sound b → p < length b.domains → q < length b.domains → SameButNodes place (behind_drawn (length b.domains) back) (with_plan b (p ∷ q ∷ []) a) (with_plan b (p ∷ q ∷ []) c)
  drawn_too sound pl ql =
      let o = other_way to back a c same in
      record {
        back_to = undone (length b.domains) to back same.back_to same.first same.second o.first o.second;
        to_back = undone (length b.domains) back to o.back_to o.first o.second same.first same.second;
        count = omega (arith, nodes_of a, nodes_of c, same.count);
        domains = domains_same;
        variables = ap (λ v. b.variables + v) same.variables;
        rows =
            sym (map-append (renamed_row (nodes_only place)) b.rows (placed_rows b (p ∷ q ∷ []) a)
            ∙ (λ i. rows_kept place b.domains (low (length b.domains) to back same.back_to same.first same.second) b.rows sound.joined i ++ rows_same pl ql i));
        laws = ap (λ (laws : List (List PlanTerm)). b.laws ++ map (map term_of) laws) laws_same;
      }

module _ (b : Netlist) (to back : ℕ → ℕ) (p q : ℕ) (a c : Plan) (same : PlanButNodes to back a c) (two : length a.ends ≡ 2) where
  pub also_fits : judge_placing b (p ∷ q ∷ []) a ≡ None → judge_placing b (p ∷ q ∷ []) c ≡ None
  also_fits h =
      let s = ends_are a.ends two in
      fits_judged b p q s.0 s.1 c (same.ends ∙ s.2) (fits_too b to back a c same p q s.0 s.1 s.2 (fits_from b p q s.0 s.1 a s.2 h))

  pub also_drawn : Sound b → judge_placing b (p ∷ q ∷ []) a ≡ None → SameButNodes (behind_drawn (length b.domains) to) (behind_drawn (length b.domains) back) (with_plan b (p ∷ q ∷ []) a) (with_plan b (p ∷ q ∷ []) c)
  also_drawn sound h =
      let s = ends_are a.ends two in
      let f = fits_from b p q s.0 s.1 a s.2 h in
      drawn_too b to back a c same p q s.0 s.1 s.2 sound f.first.drawn f.second.drawn

pub fit_alike : FitAlike
fit_alike b to back void void pm same p q = (λ h. h, λ h. h)
fit_alike b to back void (plan c) pm same p q = absurd same
fit_alike b to back (plan a) void pm same p q = absurd same
fit_alike b to back (plan a) (plan c) pm same p q =
    let o = other_way to back a c same in
    (also_fits b to back p q a c same pm.two_ends, also_fits b back to p q c a o (ap length same.ends ∙ pm.two_ends))

pub are_drawn_alike : AreDrawnAlike
are_drawn_alike b sound to back void n pm same p q h = absurd (cc)
are_drawn_alike b sound to back (plan a) void pm same p q h = absurd same
are_drawn_alike b sound to back (plan a) (plan c) pm same p q h =
    let s = also_drawn b to back p q a c same pm.two_ends sound h in (s, same_alike _ _ _ _ s)
