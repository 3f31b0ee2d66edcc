-- Equation k of a list of equations, and what a buffer holds from its start.
use Rattle.std.proofs.Common.{◌≡◌, ℕ, ◌+◌, ◌<◌, ◌≤◌, List, [], ◌∷◌, ◌++◌, map, length, get_or, drop, take, Some, None, Option, refl, sym, ap, ◌∙◌, arith}
use Rattle.std.specs.Option.{option_to_list}
use Rattle.std.proofs.lemmas.List.FromFn.{length-map-range_with_len, get_or-map-range_with_len}
use Rattle.std.proofs.lemmas.List.{get_or-append-add, get_or_append_left, get_or-map, length-append, length-drop, drop_more, append_assoc, take_at}
use Rattle.netlist.specs.declared.rows.Row.{Row}
use Rattle.netlist.specs.declared.terms.Term.{Term}
use Rattle.netlist.specs.Netlist.{Netlist}
use Rattle.equation.specs.Equations.{term_at, node_sum, node_sums, row_equation, listed, equations_of}
use Rattle.equation.proofs.Counting.{length_listed}
use Rattle.equation.proofs.Putting.{Next, NextAll}

module _ (laws : List (List Term)) (rows : List (Row ℕ)) (nodes variables : ℕ) where
  pub law_at : (k : ℕ) → k < length laws → get_or (listed laws rows nodes variables) k [] ≡ get_or laws k []
  law_at k h = get_or_append_left laws (node_sums rows nodes ++ map (row_equation variables) rows) [] k h

  pub node_at : (n : ℕ) → n < nodes → get_or (listed laws rows nodes variables) (length laws + n) [] ≡ node_sum rows n
  node_at n h =
      let sums = node_sums rows nodes in
      let own = map (row_equation variables) rows in
      let count = length-map-range_with_len (node_sum rows) 0 nodes in
      get_or-append-add laws (sums ++ own) n []
      ∙ get_or_append_left sums own [] n (omega arith)
      ∙ get_or-map-range_with_len (node_sum rows) 0 nodes n n [] h (omega arith)

  pub nodes_at : take (length laws + length (node_sums rows nodes)) (listed laws rows nodes variables) ≡ take (length laws) (listed laws rows nodes variables) ++ node_sums rows nodes
  nodes_at =
      let sums = node_sums rows nodes in
      let own = map (row_equation variables) rows in
      let n = length laws + length sums in
      ap (take n) (sym (append_assoc laws sums own))
      ∙ take_at (laws ++ sums) own n (length-append laws sums)
      ∙ ap (λ (es : List (List Term)). es ++ sums) (sym (take_at laws (sums ++ own) (length laws) refl))

  pub row_at : (i : ℕ) (d : Row ℕ) → i < length rows → get_or (listed laws rows nodes variables) (length laws + (nodes + i)) [] ≡ row_equation variables (get_or rows i d)
  row_at i d h =
      let sums = node_sums rows nodes in
      let own = map (row_equation variables) rows in
      let count : nodes ≡ length sums = sym (length-map-range_with_len (node_sum rows) 0 nodes) in
      get_or-append-add laws (sums ++ own) (nodes + i) []
      ∙ ap (λ (n : ℕ). get_or (sums ++ own) (n + i) []) count
      ∙ get_or-append-add sums own i []
      ∙ get_or-map (row_equation variables) rows i d [] h

-- Equation k of a netlist: a law, a sum at a node, or the equation of a row.
module _ (b : Netlist) (k : ℕ) where
  count : length (equations_of b) ≡ length b.laws + length b.domains + length b.rows
  count = length_listed b.laws b.rows (length b.domains) b.variables

  -- the law at which the rest of the laws begins
  pub next_law : (law : List Term) (rest : List (List Term)) → drop k b.laws ≡ law ∷ rest → (k < length b.laws) × (drop (k + 1) b.laws ≡ rest) × Next (equations_of b) k law
  next_law law rest h =
      let within : k < length b.laws = omega (arith, length-drop k b.laws, ap length h) in
      let first = drop_more b.laws k [] within in
      let here = law_at b.laws b.rows (length b.domains) b.variables k within in
      (within, cc, record { within = omega (arith, count); is = cc })

  -- no law is left
  pub no_law_left : k ≤ length b.laws → drop k b.laws ≡ [] → k ≡ length b.laws
  no_law_left within none = omega (arith, length-drop k b.laws, ap length none)

  pub next_node : (node : ℕ) (rows : List (Row ℕ)) → node < length b.domains → rows ≡ b.rows → k ≡ length b.laws + node → Next (equations_of b) k (node_sum rows node)
  next_node node rows h same at = record {
    within = omega (arith, count);
    is =
        ap (λ (n : ℕ). get_or (equations_of b) n []) at
        ∙ node_at b.laws b.rows (length b.domains) b.variables node h
        ∙ ap (λ (rs : List (Row ℕ)). node_sum rs node) (sym same);
  }

  pub next_nodes : (nodes : ℕ) (rows : List (Row ℕ)) → nodes ≡ length b.domains → rows ≡ b.rows → k ≡ length b.laws → NextAll (equations_of b) k (node_sums rows nodes)
  next_nodes nodes rows same_nodes same at =
      let sums : node_sums b.rows (length b.domains) ≡ node_sums rows nodes = λ i. node_sums (sym same i) (sym same_nodes i) in
      let many = length-map-range_with_len (node_sum rows) 0 nodes in
      record {
        within = omega (arith, count, many);
        are =
            (λ i. take (at i + length (sym sums i)) (equations_of b))
            ∙ nodes_at b.laws b.rows (length b.domains) b.variables
            ∙ (λ i. take (sym at i) (equations_of b) ++ sums i);
      }

  pub next_row : (i variables : ℕ) (rows : List (Row ℕ)) (d : Row ℕ) (e : List Term) → i < length rows → rows ≡ b.rows → variables ≡ b.variables → k ≡ length b.laws + (length b.domains + i) → e ≡ row_equation variables (get_or rows i d) → Next (equations_of b) k e
  next_row i variables rows d e h same same_variables at own =
      let long = ap length same in
      record {
        within = omega (arith, count);
        is =
            ap (λ (n : ℕ). get_or (equations_of b) n []) at
            ∙ row_at b.laws b.rows (length b.domains) b.variables i d (omega arith)
            ∙ (λ j. row_equation (sym same_variables j) (get_or (sym same j) i d))
            ∙ sym own;
      }

-- a row adds at most one term to a node
one_term : (o : Option Term) → length (option_to_list o) ≤ 1
one_term None = omega arith
one_term (Some t) = omega arith

pub few_terms : (rows : List (Row ℕ)) (n : ℕ) → length (node_sum rows n) ≤ length rows
few_terms [] n = omega arith
few_terms (row ∷ rows) n = omega (arith, length-append (option_to_list (term_at n row)) (node_sum rows n), one_term (term_at n row), few_terms rows n)
