-- Each line of a sheet has room in a buffer of `line_bytes` bytes.
use Rattle.std.proofs.Common.{◌≡◌, ℕ, zero, suc, ◌+◌, ◌^◌, ◌-◌, ◌<◌, ◌≤◌, Bool, true, false, cond, ◌&&◌, ◌==◌, ◌⊎◌, inl, inr, ⊎_elim, nat_lt, slice_index, List, [], ◌∷◌, ◌++◌, length, get_or, None, Some, refl, sym, ap, subst, arith, eqb, unsigned_abs}
use Rattle.std.specs.Option.{option_to_list}
use Rattle.std.proofs.lemmas.Fmt.{length-decimal-le}
use Rattle.std.proofs.lemmas.Bool.{and_parts, ltb-true, eq-eqb, cases_order}
use Rattle.std.proofs.lemmas.Bool.Decides.{nat_tests}
use Rattle.netlist.specs.declared.rows.Row.{Row}
use Rattle.netlist.specs.declared.rows.Row.TheVariants.{Branch, Earth}
use Rattle.netlist.specs.declared.terms.Term.{Term}
use Rattle.netlist.specs.Limits.{most_nodes, most_variables, most_rows, most_terms_of_law, largest_coefficient}
use Rattle.netlist.specs.Netlist.{Netlist}
use Rattle.netlist.specs.Rows.{bit, uses, flow_of, across_of}
use Rattle.netlist.specs.Sound.{names, is_sized, is_term_count, joins, Lawful, Sound}
use Rattle.std.specs.List.{list_all}
use Rattle.spelling.proofs.Lengths.{Small, AllSmall, line_short}
use Rattle.netlist.proofs.Every.{every_at}
use Rattle.spelling.specs.Lines.{line_text}
use Rattle.equation.specs.Equations.{plus, minus, term_at, node_sum, row_equation, equations_of}
use Rattle.equation.specs.Printing.{line_bytes, line_of}
use Rattle.equation.proofs.Counting.{length_listed}
use Rattle.equation.proofs.Finding.{law_at, node_at, row_at, few_terms}

plus_small : (v : ℕ) → v < 10 ^ 4 → Small 1 (plus v)
plus_small v h = record { digits = length-decimal-le 1 1 (omega arith) (omega arith) (omega arith); few = h }

minus_small : (v : ℕ) → v < 10 ^ 4 → Small 1 (minus v)
minus_small v h = record { digits = length-decimal-le 1 1 (omega arith) (omega arith) (omega arith); few = h }

named_below : (n : ℕ) (t : Term) → names n t ≡ true → t.variable < n
named_below n t h = ltb-true t.variable n h

sized_below : (t : Term) → is_sized t ≡ true → unsigned_abs t.coefficient ≤ largest_coefficient
sized_below t h = grind (arith, nat_tests)

-- the terms of a law
law_small : (n : ℕ) (ts : List Term) → n ≤ most_variables → list_all (names n) ts ≡ true → list_all is_sized ts ≡ true → AllSmall 7 ts
law_small n [] f named sized = tt
law_small n (t ∷ ts) f named sized =
    let inside = and_parts (names n t) (list_all (names n) ts) named in
    let short = and_parts (is_sized t) (list_all is_sized ts) sized in
    let size = sized_below t short.0 in
    let low = named_below n t inside.0 in
    (record { digits = length-decimal-le 7 (unsigned_abs t.coefficient) (omega arith) (omega arith) (omega arith); few = omega arith }, law_small n ts f inside.1 short.1)

small_append : (k : ℕ) (xs ys : List Term) → AllSmall k xs → AllSmall k ys → AllSmall k (xs ++ ys)
small_append k [] ys h h' = h'
small_append k (x ∷ xs) ys h h' = (h.0, small_append k xs ys h.1 h')

-- what a row adds to the sum at a node
branch_small : (p q r : Bool) (f : ℕ) → f < 10 ^ 4 → AllSmall 1 (option_to_list (cond p None (cond q (Some (plus f)) (cond r (Some (minus f)) None))))
branch_small true q r f h = tt
branch_small false true r f h = (plus_small f h, tt)
branch_small false false true f h = (minus_small f h, tt)
branch_small false false false f h = tt

earth_small : (p : Bool) (f : ℕ) → f < 10 ^ 4 → AllSmall 1 (option_to_list (cond p (Some (plus f)) None))
earth_small true f h = (plus_small f h, tt)
earth_small false f h = tt

term_small : (n : ℕ) (row : Row ℕ) → flow_of row < 10 ^ 4 → AllSmall 1 (option_to_list (term_at n row))
term_small n (Branch flow across first second) h = branch_small (eqb first second) (eqb first n) (eqb second n) flow h
term_small n (Earth flow across node) h = earth_small (eqb node n) flow h

-- a row whose variables are not used beyond v has them below v
flow_drawn : (v : ℕ) (row : Row ℕ) (rows : List (Row ℕ)) → ((w : ℕ) → v ≤ w → uses (row ∷ rows) w ≡ 0) → flow_of row < v
flow_drawn v row rows h =
    let own : bit (eqb (flow_of row) (flow_of row)) ≡ 1 = ap bit (eq-eqb (flow_of row) (flow_of row) refl) in
    grind (arith, h (flow_of row), own)

across_drawn : (v : ℕ) (row : Row ℕ) (rows : List (Row ℕ)) → ((w : ℕ) → v ≤ w → uses (row ∷ rows) w ≡ 0) → across_of row < v
across_drawn v row rows h =
    let own : bit (eqb (across_of row) (across_of row)) ≡ 1 = ap bit (eq-eqb (across_of row) (across_of row) refl) in
    grind (arith, h (across_of row), own)

rest_drawn : (v : ℕ) (row : Row ℕ) (rows : List (Row ℕ)) → ((w : ℕ) → v ≤ w → uses (row ∷ rows) w ≡ 0) → (w : ℕ) → v ≤ w → uses rows w ≡ 0
rest_drawn v row rows h w l = omega (arith, h w l)

sum_small : (v n : ℕ) (rows : List (Row ℕ)) → v ≤ most_variables → ((w : ℕ) → v ≤ w → uses rows w ≡ 0) → AllSmall 1 (node_sum rows n)
sum_small v n [] f h = tt
sum_small v n (row ∷ rows) f h =
    let low = flow_drawn v row rows h in
    small_append 1 (option_to_list (term_at n row)) (node_sum rows n) (term_small n row (omega arith)) (sum_small v n rows f (rest_drawn v row rows h))

-- the equation of a row
row_small : (v : ℕ) (domains : List ℕ) (row : Row ℕ) → v ≤ most_variables → length domains ≤ most_nodes → across_of row < v → joins domains row ≡ true → AllSmall 1 (row_equation v row)
row_small v domains (Branch flow across first second) f g low j =
    let one = and_parts (nat_lt first (length domains)) (nat_lt second (length domains) && slice_index domains first == slice_index domains second) j in
    let two = and_parts (nat_lt second (length domains)) (slice_index domains first == slice_index domains second) one.1 in
    let below_first = ltb-true first (length domains) one.0 in
    let below_second = ltb-true second (length domains) two.0 in
    (plus_small across (omega arith), (minus_small (v + first) (omega arith), (plus_small (v + second) (omega arith), tt)))
row_small v domains (Earth flow across node) f g low j =
    let below = ltb-true node (length domains) j in
    (plus_small across (omega arith), (minus_small (v + node) (omega arith), tt))

-- the across of each row is below v
across_below : (v : ℕ) (rows : List (Row ℕ)) → ((w : ℕ) → v ≤ w → uses rows w ≡ 0) → (i : ℕ) (d : Row ℕ) → i < length rows → across_of (get_or rows i d) < v
across_below v [] h i d l = absurd (omega arith)
across_below v (row ∷ rows) h zero d l = across_drawn v row rows h
across_below v (row ∷ rows) h (suc i) d l = across_below v rows (rest_drawn v row rows h) i d (omega arith)

order : (k n : ℕ) → (k < n) ⊎ (n ≤ k)
order k n = ⊎_elim (λ e. inr (omega arith)) (⊎_elim inl (λ h. inr (omega arith))) (cases_order k n)

few_terms_of : (n : ℕ) → is_term_count n ≡ true → n ≤ most_terms_of_law
few_terms_of n h = grind (arith, nat_tests)

three : (v : ℕ) (row : Row ℕ) → length (row_equation v row) ≤ most_rows
three v (Branch flow across first second) = omega arith
three v (Earth flow across node) = omega arith

-- what a read past the last row would give
abbrev none : Row ℕ
none = Earth 0 0 0

abbrev Fits : ℕ → List Term → Type 0
Fits v e = length (line_text v e) ≤ line_bytes

short_fits : (v : ℕ) (e : List Term) → AllSmall 1 e → length e ≤ most_rows → Fits v e
short_fits v e s h = omega (arith, line_short 1 v e s)

law_fits : (v : ℕ) (e : List Term) → v ≤ most_variables → Lawful v e → Fits v e
law_fits v e f s =
    let few : length e ≤ most_terms_of_law = few_terms_of (length e) s.count in
    omega (arith, line_short 7 v e (law_small v e f s.named s.sized))

module _ (b : Netlist) (s : Sound b) (k : ℕ) where
  at_law : k < length b.laws → Fits b.variables (get_or (equations_of b) k [])
  at_law h =
      subst (Fits b.variables) (sym (law_at b.laws b.rows (length b.domains) b.variables k h)) (law_fits b.variables (get_or b.laws k []) s.within.variables (s.laws k h))

  at_node : length b.laws ≤ k → k < length b.laws + length b.domains → Fits b.variables (get_or (equations_of b) k [])
  at_node low high =
      let n = k - length b.laws in
      let place : length b.laws + n ≡ k = omega arith in
      let is = node_at b.laws b.rows (length b.domains) b.variables n (omega arith) in
      let sum = node_sum b.rows n in
      let count : length sum ≤ most_rows = omega (arith, few_terms b.rows n, s.within.rows) in
      let fits : Fits b.variables sum = short_fits b.variables sum (sum_small b.variables n b.rows s.within.variables s.drawn) count in
      subst (λ (j : ℕ). Fits b.variables (get_or (equations_of b) j [])) place (subst (Fits b.variables) (sym is) fits)

  at_row : length b.laws + length b.domains ≤ k → k < length b.laws + length b.domains + length b.rows → Fits b.variables (get_or (equations_of b) k [])
  at_row low high =
      let i = k - length b.laws - length b.domains in
      let within : i < length b.rows = omega arith in
      let place : length b.laws + (length b.domains + i) ≡ k = omega arith in
      let is = row_at b.laws b.rows (length b.domains) b.variables i none within in
      let row = get_or b.rows i none in
      let joined = every_at (joins b.domains) b.rows i none within s.joined in
      let small = row_small b.variables b.domains row s.within.variables s.within.nodes (across_below b.variables b.rows s.drawn i none within) joined in
      let fits : Fits b.variables (row_equation b.variables row) = short_fits b.variables (row_equation b.variables row) small (three b.variables row) in
      subst (λ (j : ℕ). Fits b.variables (get_or (equations_of b) j [])) place (subst (Fits b.variables) (sym is) fits)

  pub line_fits : k < length (equations_of b) → length (line_of b k) ≤ line_bytes
  line_fits h =
      let count = length_listed b.laws b.rows (length b.domains) b.variables in
      ⊎_elim at_law (λ low. ⊎_elim (at_node low) (λ more. at_row more (omega arith)) (order k (length b.laws + length b.domains))) (order k (length b.laws))
