-- What rows and laws keep to that fit.
use Rattle.std.proofs.Common.{◌≡◌, ℕ, ◌<◌, ◌+◌, ◌≤◌, Bool, true, false, ◌&&◌, List, [], ◌∷◌, map, length, eqb, refl, sym, ap, ◌∙◌, arith}
use Rattle.std.specs.List.{list_all}
use Rattle.std.proofs.Math.Bool.{and_assoc, and-false}
use Rattle.std.proofs.lemmas.List.{length-map}
use Rattle.std.proofs.lemmas.Bool.{and_parts, not-true, ltb-true, ltb-false, leb-true, eqb-false}
use Rattle.netlist.specs.declared.rows.Row.{Row}
use Rattle.netlist.specs.declared.terms.RawTerm.{RawTerm}
use Rattle.netlist.specs.declared.terms.Term.{Term}
use Rattle.netlist.specs.Limits.{most_rows, most_laws, most_terms}
use Rattle.netlist.specs.Netlist.{Netlist, term_of, term_count}
use Rattle.netlist.specs.Rows.{uses, flow_of, across_of, taken_by}
use Rattle.netlist.specs.Sound.{joins, names, is_sized, is_term_count}
use Rattle.sheet.specs.Steps.{is_free, has_free, row_fits, law_fits, is_lawful, has_room}
use Rattle.sheet.specs.Steps.{has_order, have_orders, raw_law_fits, raw_term_fits}

-- the row names what is drawn and free, and there is room
pub record Fits (b : Netlist) (row : Row ℕ) : Type 0 where
  pub joins : joins b.domains row ≡ true
  pub flow_drawn : flow_of row < b.variables
  pub across_drawn : across_of row < b.variables
  pub apart : across_of row ≡ flow_of row → ⊥
  pub flow_free : uses b.rows (flow_of row) ≡ 0
  pub across_free : uses b.rows (across_of row) ≡ 0
  pub room : length b.rows < most_rows

free_parts : (b : Netlist) (v : ℕ) → is_free b v ≡ true → (v < b.variables) × (uses b.rows v ≡ 0)
free_parts b v h =
    let p = and_parts _ _ h in
    (ltb-true _ _ p.0, omega (arith, ltb-false 0 _ (not-true (taken_by b.rows v) p.1)))

pub fits_parts : (b : Netlist) (row : Row ℕ) → row_fits b row ≡ true → Fits b row
fits_parts b row h =
    let p = and_parts _ _ h in
    let q = and_parts (has_free b row) _ p.1 in
    let r = and_parts (is_free b (flow_of row)) _ q.0 in
    let s = and_parts (is_free b (across_of row)) _ r.1 in
    let flow = free_parts b (flow_of row) r.0 in
    let across = free_parts b (across_of row) s.0 in
    record {
      joins = p.0;
      flow_drawn = flow.0;
      across_drawn = across.0;
      apart = eqb-false _ _ (not-true (eqb (across_of row) (flow_of row)) s.1);
      flow_free = flow.1;
      across_free = across.1;
      room = ltb-true _ _ q.1;
    }

-- the law keeps to a law's bounds, and there is room
pub record LawFits (n : ℕ) (laws : List (List Term)) (law : List Term) : Type 0 where
  pub count : is_term_count (length law) ≡ true
  pub named : list_all (names n) law ≡ true
  pub sized : list_all is_sized law ≡ true
  pub room : has_room laws (length law) ≡ true

pub law_parts : (b : Netlist) (law : List Term) → law_fits b law ≡ true → LawFits b.variables b.laws law
law_parts b law h =
    let p = and_parts (is_lawful b.variables law) _ h in
    let q = and_parts (is_term_count (length law)) _ p.0 in
    let r = and_parts (list_all (names b.variables) law) _ q.1 in
    record { count = q.0; named = r.0; sized = r.1; room = p.1 }

-- raw terms are tested one by one, and their law as a whole
mixed : (o n s os ns ss : Bool) → ((o && (n && s)) && (os && (ns && ss))) ≡ ((o && os) && ((n && ns) && (s && ss)))
mixed false n s os ns ss = refl
mixed true n s false ns ss = and-false (n && s)
mixed true false s true ns ss = refl
mixed true true true true ns ss = refl
mixed true true false true ns ss = sym (and-false ns)

all_apart : (n : ℕ) (raw : List (RawTerm ℕ)) → list_all (raw_term_fits n) raw ≡ (have_orders raw && (list_all (names n) (map term_of raw) && list_all is_sized (map term_of raw)))
all_apart n [] = refl
all_apart n (t ∷ ts) =
    ap (λ (b : Bool). raw_term_fits n t && b) (all_apart n ts)
    ∙ mixed (has_order t) (names n (term_of t)) (is_sized (term_of t)) (have_orders ts) _ _

swapped : (a o r : Bool) → (a && (o && r)) ≡ (o && (a && r))
swapped true o r = refl
swapped false o r = sym (and-false o)

pub raw_lawful : (n : ℕ) (raw : List (RawTerm ℕ)) → (have_orders raw && is_lawful n (map term_of raw)) ≡ (is_term_count (length raw) && list_all (raw_term_fits n) raw)
raw_lawful n raw =
    sym (swapped _ (have_orders raw) _)
    ∙ ap (λ (b : Bool). is_term_count (length (map term_of raw)) && b) (sym (all_apart n raw))
    ∙ ap (λ (k : ℕ). is_term_count k && list_all (raw_term_fits n) raw) (length-map raw term_of)

pub raw_law_tested : (b : Netlist) (raw : List (RawTerm ℕ)) → raw_law_fits b raw ≡ ((have_orders raw && is_lawful b.variables (map term_of raw)) && has_room b.laws (length raw))
raw_law_tested b raw =
    sym (and_assoc (have_orders raw) _ _)
    ∙ ap (λ (k : ℕ). (have_orders raw && is_lawful b.variables (map term_of raw)) && has_room b.laws k) (length-map raw term_of)

pub laws_left : (laws : List (List Term)) (n : ℕ) → has_room laws n ≡ true → length laws < most_laws
laws_left laws n h = ltb-true _ _ (and_parts _ _ h).0

pub terms_left : (laws : List (List Term)) (n : ℕ) → has_room laws n ≡ true → term_count laws + n ≤ most_terms
terms_left laws n h = leb-true _ _ (and_parts _ _ h).1
