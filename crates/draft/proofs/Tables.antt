-- What a table says of a call that passes it.
use Rattle.std.proofs.Common.{◌≡◌, ℕ, ◌+◌, ◌<◌, true, eqb, List, [], ◌∷◌, map, length, get_or, drop, Some, None, sym, refl, ◌∙◌, arith}
use Rattle.std.specs.List.{list_all}
use Rattle.std.proofs.lemmas.List.{at_drop_more}
use Rattle.std.proofs.lemmas.Bool.{leb-false, lt-ltb, le-leb, ltb-false, eqb-false, not-false, not_from_false, and_from, or_parts}
use Rattle.draft.specs.declared.refusals.DraftRefusal.{DraftRefusal}
use Rattle.draft.specs.declared.refusals.DraftRefusal.TheVariants.{TermCount}
use Rattle.netlist.specs.declared.rows.Row.{Row}
use Rattle.netlist.specs.declared.rows.Row.TheVariants.{Branch, Earth}
use Rattle.netlist.specs.declared.terms.RawTerm.{RawTerm}
use Rattle.netlist.specs.Netlist.{Netlist, term_of}
use Rattle.netlist.specs.Rows.{uses, flow_of, across_of, taken_by}
use Rattle.draft.specs.Rules.{table_row, table_term, table_terms, table_law}
use Rattle.netlist.specs.Limits.{no_term_count}
use Rattle.refusal.specs.Tests.{first_of}
use Rattle.refusal.proofs.Tables.{passes_line, passes, passed_over, stopped_at, parts}
use Rattle.netlist.specs.Sound.{joins, names, is_sized, is_term_count}
use Rattle.sheet.specs.Steps.{have_orders}

-- the row names what is drawn and free
pub record Fresh (b : Netlist) (row : Row ℕ) : Type 0 where
  pub joins : joins b.domains row ≡ true
  pub flow_drawn : flow_of row < b.variables
  pub across_drawn : across_of row < b.variables
  pub apart : across_of row ≡ flow_of row → ⊥
  pub flow_free : uses b.rows (flow_of row) ≡ 0
  pub across_free : uses b.rows (across_of row) ≡ 0

pub row_fresh : (b : Netlist) (row : Row ℕ) → first_of (table_row b row) ≡ None → Fresh b row
row_fresh b (Branch flow across first second) h =
    let t = passes (table_row b (Branch flow across first second)) h in
    let twice = or_parts (taken_by b.rows across) (eqb across flow) t.1.1.1.1.1.0 in
    let alike = not-false _ t.1.1.1.1.1.1.0 in
    record {
      joins = and_from _ _ (lt-ltb _ _ (leb-false _ _ t.0)) (and_from _ _ (lt-ltb _ _ (leb-false _ _ t.1.0)) alike);
      flow_drawn = leb-false _ _ t.1.1.0;
      across_drawn = leb-false _ _ t.1.1.1.0;
      apart = eqb-false _ _ twice.1;
      flow_free = omega (arith, ltb-false 0 _ t.1.1.1.1.0);
      across_free = omega (arith, ltb-false 0 _ twice.0);
    }
row_fresh b (Earth flow across node) h =
    let t = passes (table_row b (Earth flow across node)) h in
    let twice = or_parts (taken_by b.rows across) (eqb across flow) t.1.1.1.1.0 in
    record {
      joins = lt-ltb _ _ (leb-false _ _ t.0);
      flow_drawn = leb-false _ _ t.1.0;
      across_drawn = leb-false _ _ t.1.1.0;
      apart = eqb-false _ _ twice.1;
      flow_free = omega (arith, ltb-false 0 _ t.1.1.1.0);
      across_free = omega (arith, ltb-false 0 _ twice.0);
    }

-- the terms of a law, one by one: the one at place i of the slice is term i + 1
pub terms_next : (n : ℕ) (ts : List (RawTerm ℕ)) (i : ℕ) (d : RawTerm ℕ) → i < length ts → first_of (table_term n (i + 1) (get_or ts i d)) ≡ None → first_of (table_terms n (i + 1 + 1) (drop (i + 1) ts)) ≡ first_of (table_terms n (i + 1) (drop i ts))
terms_next n ts i d within h =
    sym (at_drop_more (λ (xs : List (RawTerm ℕ)). first_of (table_terms n (i + 1) xs)) ts i d within ∙ passed_over (table_term n (i + 1) (get_or ts i d)) (table_terms n (i + 1 + 1) (drop (i + 1) ts)) h)

pub terms_stop : (n : ℕ) (ts : List (RawTerm ℕ)) (i : ℕ) (d : RawTerm ℕ) (why : DraftRefusal) → i < length ts → first_of (table_term n (i + 1) (get_or ts i d)) ≡ Some why → first_of (table_terms n (i + 1) (drop i ts)) ≡ Some why
terms_stop n ts i d why within h =
    at_drop_more (λ (xs : List (RawTerm ℕ)). first_of (table_terms n (i + 1) xs)) ts i d within ∙ stopped_at (table_term n (i + 1) (get_or ts i d)) (table_terms n (i + 1 + 1) (drop (i + 1) ts)) why h

-- the terms of a law that passes are within their bounds
all_sized : (n i : ℕ) (ts : List (RawTerm ℕ)) → first_of (table_terms n i ts) ≡ None → list_all is_sized (map term_of ts) ≡ true
all_sized n i [] h = refl
all_sized n i (t ∷ ts) h =
    let p = parts (table_term n i t) (table_terms n (i + 1) ts) h in
    and_from _ _ (not_from_false _ (passes (table_term n i t) p.0).0) (all_sized n (i + 1) ts p.1)

all_named : (n i : ℕ) (ts : List (RawTerm ℕ)) → first_of (table_terms n i ts) ≡ None → list_all (names n) (map term_of ts) ≡ true
all_named n i [] h = refl
all_named n i (t ∷ ts) h =
    let p = parts (table_term n i t) (table_terms n (i + 1) ts) h in
    and_from _ _ (lt-ltb _ _ (leb-false _ _ (passes (table_term n i t) p.0).1.1.0)) (all_named n (i + 1) ts p.1)

all_ordered : (n i : ℕ) (ts : List (RawTerm ℕ)) → first_of (table_terms n i ts) ≡ None → have_orders ts ≡ true
all_ordered n i [] h = refl
all_ordered n i (t ∷ ts) h =
    let p = parts (table_term n i t) (table_terms n (i + 1) ts) h in
    and_from _ _ (le-leb t.order 1 (ltb-false 1 _ (passes (table_term n i t) p.0).1.0)) (all_ordered n (i + 1) ts p.1)

-- what holds of a law that passes, over variables 0 to n - 1
pub record Accepted (n : ℕ) (ts : List (RawTerm ℕ)) : Type 0 where
  pub count : is_term_count (length ts) ≡ true
  pub sized : list_all is_sized (map term_of ts) ≡ true
  pub named : list_all (names n) (map term_of ts) ≡ true
  pub ordered : have_orders ts ≡ true

pub law_accepted : (n : ℕ) (ts : List (RawTerm ℕ)) → first_of (table_law n ts) ≡ None → Accepted n ts
law_accepted n ts h =
    let p = passes_line (no_term_count (length ts)) TermCount (first_of (table_terms n 1 ts)) h in
    record { count = not_from_false _ p.0; sized = all_sized n 1 ts p.1; named = all_named n 1 ts p.1; ordered = all_ordered n 1 ts p.1 }
