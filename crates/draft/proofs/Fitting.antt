-- What passes the table of a call fits the tables of a netlist.
use Rattle.std.proofs.Common.{◌≡◌, ℕ, ◌+◌, ◌<◌, Bool, true, false, ◌&&◌, List, [], ◌∷◌, map, length, Option, Some, None, not, nat_lt, refl, sym, subst, ap, ◌∙◌, arith}
use Rattle.std.specs.Prelude.{Result, Ok, Err, IsErr}
use Rattle.std.specs.List.{list_all}
use Rattle.std.proofs.lemmas.Bool.{ltb-true, leb-true, leb-false, lt-ltb, lt-leb, le-leb, le-ltb, ne_eqb}
use Rattle.std.proofs.lemmas.Bool.{not-true, cond-false, and_from, and_parts}
use Rattle.std.proofs.lemmas.List.{length-map}
use Rattle.netlist.specs.declared.rows.Row.{Row}
use Rattle.netlist.specs.declared.terms.RawTerm.{RawTerm}
use Rattle.netlist.specs.Limits.{most_rows, most_laws}
use Rattle.netlist.specs.Netlist.{Netlist, term_of, term_count}
use Rattle.netlist.specs.Rows.{uses, flow_of, across_of}
use Rattle.netlist.specs.Sound.{names, is_term_count}
use Rattle.refusal.specs.Answers.{Tells}
use Rattle.refusal.specs.Tests.{first_of}
use Rattle.refusal.proofs.Tables.{passes, passed_over, parts}
use Rattle.sheet.specs.Steps.{number_if, is_free, row_fits, law_fits, is_lawful}
use Rattle.sheet.specs.Steps.{has_order, have_orders, raw_law_fits, raw_term_fits}
use Rattle.sheet.proofs.Fitting.{raw_lawful, raw_law_tested}
use Rattle.draft.specs.Rules.{table_row, room_row, judge_row, table_term, table_terms, table_law, room_law, judge_law}
use Rattle.draft.proofs.Rooms.{laws_left, terms_left, room_left}
use Rattle.draft.proofs.Tables.{row_fresh, law_accepted}

free_from : (b : Netlist) (v : ℕ) → v < b.variables → uses b.rows v ≡ 0 → is_free b v ≡ true
free_from b v drawn free = and_from _ _ (lt-ltb _ _ drawn) (ap not (le-ltb 0 (uses b.rows v) (omega arith)))

pub row_fits_passed : (b : Netlist) (row : Row ℕ) → judge_row b row ≡ None → row_fits b row ≡ true
row_fits_passed b row h =
    let p = parts (table_row b row) (room_row b.rows) h in
    let f = row_fresh b row p.0 in
    let room : length b.rows < most_rows = leb-false _ _ (passes (room_row b.rows) p.1).0 in
    let flow = free_from b (flow_of row) f.flow_drawn f.flow_free in
    let across = free_from b (across_of row) f.across_drawn f.across_free in
    and_from _ _ f.joins (and_from _ _ (and_from _ _ flow (and_from _ _ across (ap not (ne_eqb _ _ f.apart)))) (lt-ltb _ _ room))

pub law_fits_passed : (b : Netlist) (ts : List (RawTerm ℕ)) → judge_law b ts ≡ None → law_fits b (map term_of ts) ≡ true
law_fits_passed b ts h =
    let p = parts (table_law b.variables ts) (room_law b.laws (length ts)) h in
    let f = law_accepted b.variables ts p.0 in
    let long = sym (length-map ts term_of) in
    let count = subst (λ (k : ℕ). is_term_count k ≡ true) long f.count in
    let laws = lt-ltb _ _ (laws_left b.laws (length ts) p.1) in
    let terms = le-leb (term_count b.laws + length (map term_of ts)) _ (omega (arith, long, terms_left b.laws (length ts) p.1)) in
    and_from _ _ (and_from _ _ count (and_from _ _ f.named f.sized)) (and_from _ _ laws terms)

-- a law passes exactly where it fits
pub law_passed : (b : Netlist) (ts : List (RawTerm ℕ)) → judge_law b ts ≡ None → raw_law_fits b ts ≡ true
law_passed b ts h =
    let f = law_accepted b.variables ts (parts (table_law b.variables ts) (room_law b.laws (length ts)) h).0 in
    and_from _ _ f.ordered (law_fits_passed b ts h)

term_fitting : (n i : ℕ) (t : RawTerm ℕ) → raw_term_fits n t ≡ true → first_of (table_term n i t) ≡ None
term_fitting n i t h =
    let p = and_parts (has_order t) _ h in
    let q = and_parts (names n (term_of t)) _ p.1 in
    cond-false _ _ _ (not-true _ q.1)
    ∙ cond-false _ _ _ (le-ltb 1 t.order (leb-true _ _ p.0))
    ∙ cond-false _ _ _ (lt-leb n t.variable (ltb-true _ _ q.0))

terms_fitting : (n i : ℕ) (ts : List (RawTerm ℕ)) → list_all (raw_term_fits n) ts ≡ true → first_of (table_terms n i ts) ≡ None
terms_fitting n i [] h = refl
terms_fitting n i (t ∷ ts) h =
    let p = and_parts (raw_term_fits n t) _ h in
    passed_over (table_term n i t) (table_terms n (i + 1) ts) (term_fitting n i t p.0) ∙ terms_fitting n (i + 1) ts p.1

pub law_fitting : (b : Netlist) (ts : List (RawTerm ℕ)) → raw_law_fits b ts ≡ true → judge_law b ts ≡ None
law_fitting b ts h =
    let n = b.variables in
    let p = and_parts (have_orders ts && is_lawful n (map term_of ts)) _ (sym (raw_law_tested b ts) ∙ h) in
    let q = and_parts (is_term_count (length ts)) _ (sym (raw_lawful n ts) ∙ p.0) in
    let r = and_parts (nat_lt (length b.laws) most_laws) _ p.1 in
    let judged = cond-false _ _ _ (not-true _ q.0) ∙ terms_fitting n 1 ts q.1 in
    passed_over (table_law n ts) (room_law b.laws (length ts)) judged ∙ room_left b.laws (length ts) (ltb-true _ _ r.0) (leb-true _ _ r.1)

-- a number is answered where the step fits, and no other
pub number_given : (fits : Bool) (next n : ℕ) → Some n ≡ number_if fits next → (fits ≡ true) × (n ≡ next)
number_given true next n h = (refl, cc)
number_given false next n h = let z : ◌≡◌ {A = ℕ} 0 1 = cc in absurd (omega arith)

pub none_given : (fits : Bool) (next : ℕ) → None ≡ number_if fits next → fits ≡ false
none_given true next h = let z : ◌≡◌ {A = ℕ} 0 1 = cc in absurd (omega arith)
none_given false next h = refl

pub told_refusal : {R X : Type 0} (judged : Option R) (result : Result X R) → (judged ≡ None → ⊥) → Tells judged result → IsErr result
told_refusal judged (Ok x) refused told = absurd (refused told)
told_refusal judged (Err why) refused told = refl
