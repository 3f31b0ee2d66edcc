-- How many terms the equations have.
use Rattle.std.proofs.Common.{◌≡◌, ℕ, zero, suc, ◌+◌, ◌*◌, ◌<◌, ◌≤◌, Bool, true, false, cond, eqb, ltb, List, [], ◌∷◌, ◌++◌, map, length, Some, None, sym, refl, ap, ◌∙◌, ⊎_elim, arith}
use Rattle.std.specs.List.{range_with_len, sum_by, list_all}
use Rattle.std.specs.Option.{option_to_list}
use Rattle.std.proofs.lemmas.List.{length-append}
use Rattle.std.proofs.lemmas.List.Sums.{sum_by-cons}
use Rattle.std.proofs.lemmas.Bool.{and_parts, ltb-true, eq-eqb, ne_eqb, cases_eq, eqb-true}
use Rattle.netlist.specs.declared.rows.Row.{Row}
use Rattle.netlist.specs.declared.rows.Row.TheVariants.{Branch, Earth}
use Rattle.netlist.specs.declared.terms.Term.{Term}
use Rattle.netlist.specs.Pieces.{flat}
use Rattle.netlist.specs.Rows.{bit}
use Rattle.netlist.specs.Sound.{joins}
use Rattle.equation.specs.Equations.{plus, minus, term_at, node_sum, node_sums, row_equation}
use Rattle.equation.specs.Writing.{row_size}

-- how many of the n numbers from a on are p
abbrev hits_from : ℕ → ℕ → ℕ → ℕ
hits_from p a zero = 0
hits_from p a (suc n) = bit (eqb p a) + hits_from p (a + 1) n

hits_below : (p a n : ℕ) → p < a → hits_from p a n ≡ 0
hits_below p a zero h = refl
hits_below p a (suc n) h = omega (arith, ap bit (ne_eqb p a (λ e. omega arith)), hits_below p (a + 1) n (omega arith))

hits_within : (p a n : ℕ) → a ≤ p → p < a + n → hits_from p a n ≡ 1
hits_within p a zero l h = absurd (omega arith)
hits_within p a (suc n) l h =
    ⊎_elim
    (λ e. omega (arith, ap bit (eq-eqb p a e), hits_below p (a + 1) n (omega arith)))
    (λ ne. omega (arith, ap bit (ne_eqb p a ne), hits_within p (a + 1) n (omega arith) (omega arith)))
    (cases_eq p a)

-- how many terms a row adds at the n nodes from a on
abbrev ends_from : Row ℕ → ℕ → ℕ → ℕ
ends_from row a zero = 0
ends_from row a (suc n) = length (option_to_list (term_at a row)) + ends_from row (a + 1) n

none_from : (flow across first second a n : ℕ) → first ≡ second → ends_from (Branch flow across first second) a n ≡ 0
none_from flow across first second a zero e = refl
none_from flow across first second a (suc n) e =
    let rest = none_from flow across first second (a + 1) n e in
    let here : length (option_to_list (term_at a (Branch flow across first second))) ≡ 0 =
    ap (λ (b : Bool). length (option_to_list (cond b None (cond (eqb first a) (Some (plus flow)) (cond (eqb second a) (Some (minus flow)) None))))) (eq-eqb first second e) in
    omega arith

either_end : (p q : Bool) (s t : Term) → (p ≡ true → q ≡ false) → length (option_to_list (cond p (Some s) (cond q (Some t) None))) ≡ bit p + bit q
either_end true true s t h = let z : true ≡ false = h refl in let n = ap bit z in absurd (omega arith)
either_end true false s t h = refl
either_end false true s t h = refl
either_end false false s t h = refl

both_from : (flow across first second a n : ℕ) → (first ≡ second → ⊥) → ends_from (Branch flow across first second) a n ≡ hits_from first a n + hits_from second a n
both_from flow across first second a zero d = refl
both_from flow across first second a (suc n) d =
    let rest = both_from flow across first second (a + 1) n d in
    let here : length (option_to_list (term_at a (Branch flow across first second))) ≡ bit (eqb first a) + bit (eqb second a) =
    ap (λ (b : Bool). length (option_to_list (cond b None (cond (eqb first a) (Some (plus flow)) (cond (eqb second a) (Some (minus flow)) None))))) (ne_eqb first second d)
    ∙ either_end (eqb first a) (eqb second a) (plus flow) (minus flow) (λ e. ne_eqb second a (λ k. d (eqb-true first a e ∙ sym k))) in
    omega arith

one_end : (p : Bool) (s : Term) → length (option_to_list (cond p (Some s) None)) ≡ bit p
one_end true s = refl
one_end false s = refl

earth_from : (flow across node a n : ℕ) → ends_from (Earth flow across node) a n ≡ hits_from node a n
earth_from flow across node a zero = refl
earth_from flow across node a (suc n) = omega (arith, one_end (eqb node a) (plus flow), earth_from flow across node (a + 1) n)

-- a row adds to its nodes and has an equation of its own
row_adds : (ds : List ℕ) (v : ℕ) (row : Row ℕ) → joins ds row ≡ true → ends_from row 0 (length ds) + length (row_equation v row) ≡ row_size row
row_adds ds v (Branch flow across first second) h =
    let p = and_parts (ltb first (length ds)) _ h in
    let q = and_parts (ltb second (length ds)) _ p.1 in
    let one = hits_within first 0 (length ds) (omega arith) (omega (arith, ltb-true _ _ p.0)) in
    let two = hits_within second 0 (length ds) (omega arith) (omega (arith, ltb-true _ _ q.0)) in
    ⊎_elim
    (λ e. let k : row_size (Branch flow across first second) ≡ 3 = ap (λ (b : Bool). cond b 3 5) (eq-eqb first second e) in omega (arith, none_from flow across first second 0 (length ds) e))
    (λ d. let k : row_size (Branch flow across first second) ≡ 5 = ap (λ (b : Bool). cond b 3 5) (ne_eqb first second d) in omega (arith, both_from flow across first second 0 (length ds) d))
    (cases_eq first second)
row_adds ds v (Earth flow across node) h =
    let one = hits_within node 0 (length ds) (omega arith) (omega (arith, ltb-true _ _ h)) in
    omega (arith, earth_from flow across node 0 (length ds))

sums_none : (a n : ℕ) → length (flat (map (node_sum []) (range_with_len a n))) ≡ 0
sums_none a zero = refl
sums_none a (suc n) = sums_none (a + 1) n

sums_row : (row : Row ℕ) (rows : List (Row ℕ)) (a n : ℕ) → length (flat (map (node_sum (row ∷ rows)) (range_with_len a n))) ≡ ends_from row a n + length (flat (map (node_sum rows) (range_with_len a n)))
sums_row row rows a zero = refl
sums_row row rows a (suc n) =
    let here = option_to_list (term_at a row) in
    let rest = node_sum rows a in
    omega (
      arith,
      sums_row row rows (a + 1) n,
      length-append here rest,
      length-append (here ++ rest) (flat (map (node_sum (row ∷ rows)) (range_with_len (a + 1) n))),
      length-append rest (flat (map (node_sum rows) (range_with_len (a + 1) n))),
    )

pub sizes_are : (ds : List ℕ) (v : ℕ) (rows : List (Row ℕ)) → list_all (joins ds) rows ≡ true → length (flat (node_sums rows (length ds))) + length (flat (map (row_equation v) rows)) ≡ sum_by row_size rows
sizes_are ds v [] h = omega (arith, sums_none 0 (length ds))
sizes_are ds v (row ∷ rows) h =
    let p = and_parts (joins ds row) (list_all (joins ds) rows) h in
    omega (
      arith,
      sum_by-cons row_size row rows,
      sizes_are ds v rows p.1,
      row_adds ds v row p.0,
      sums_row row rows 0 (length ds),
      length-append (row_equation v row) (flat (map (row_equation v) rows)),
    )

three_or_five : (p : Bool) → cond p 3 5 ≤ 5
three_or_five true = omega arith
three_or_five false = omega arith

small : (row : Row ℕ) → row_size row ≤ 5
small (Branch flow across first second) = three_or_five (eqb first second)
small (Earth flow across node) = omega arith

pub few : (rows : List (Row ℕ)) → sum_by row_size rows ≤ 5 * length rows
few [] = omega arith
few (row ∷ rows) = omega (arith, sum_by-cons row_size row rows, small row, few rows)
