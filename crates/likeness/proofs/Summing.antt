-- Law sums and net flows under other numbers and in another order.
use Rattle.std.proofs.Common.{◌≡◌, ℕ, Bool, List, [], ◌∷◌, map, refl, sym, ap, ◌∙◌, ap₂}
use Rattle.std.specs.List.{AllByRecursion}
use Rattle.std.specs.List.Sorted.{IsPermutation}
use Rattle.std.proofs.lemmas.List.Sorted.{IsPermutation-map}
use Rattle.quantity.specs.Group.{Group}
use Rattle.quantity.specs.Totals.{total}
use Rattle.quantity.proofs.Adding.{total_reordered}
use Rattle.netlist.specs.declared.rows.Row.{Row}
use Rattle.netlist.specs.declared.rows.Row.TheVariants.{Branch, Earth}
use Rattle.netlist.specs.declared.terms.Order.{Order}
use Rattle.netlist.specs.declared.terms.Order.TheVariants.{Value, Rate}
use Rattle.netlist.specs.declared.terms.Term.{Term}
use Rattle.netlist.specs.Rows.{flow_of}
use Rattle.likeness.specs.Alike.{nodes_of}
use Rattle.netlist.specs.Renaming.{Renaming, renamed_row, renamed_law}
use Rattle.network.specs.Flows.{leaves, net_flow}
use Rattle.network.specs.Laws.{of_order, law_sum}
use Rattle.network.specs.Readings.{Readings}
use Rattle.network.specs.Walks.{read}
use Rattle.likeness.proofs.Renaming.{of_row, of_law}

-- v has under its new number the reading that it had
abbrev pub Kept : {G : Type 0} → Group G → Renaming → List G → List G → ℕ → Type 0
Kept 𝓖 to old new v = read 𝓖 new (to.variable v) ≡ read 𝓖 old v

module _ {G : Type 0} (𝓖 : Group G) (to : Renaming) (r r' : Readings G) where
  term_renamed : (o : Order) (v : ℕ) → Kept 𝓖 to r.values r'.values v → Kept 𝓖 to r.rates r'.rates v → read 𝓖 (of_order o r') (to.variable v) ≡ read 𝓖 (of_order o r) v
  term_renamed Value v p q = p
  term_renamed Rate v p q = q

  pub law_sum_renamed : (law : List Term) → AllByRecursion (Kept 𝓖 to r.values r'.values) (of_law law) → AllByRecursion (Kept 𝓖 to r.rates r'.rates) (of_law law) → law_sum 𝓖 (renamed_law to law) r' ≡ law_sum 𝓖 law r
  law_sum_renamed [] p q = refl
  law_sum_renamed (t ∷ law) p q = ap₂ 𝓖.sum (ap (𝓖.multiple t.coefficient) (term_renamed t.order t.variable p.0 q.0)) (law_sum_renamed law p.1 q.1)

module _ {G : Type 0} (𝓖 : Group G) (r : Readings G) where
  -- what a term adds
  abbrev of_term : Term → G
  of_term t = 𝓖.multiple t.coefficient (read 𝓖 (of_order t.order r) t.variable)

  law_is_total : (law : List Term) → law_sum 𝓖 law r ≡ total 𝓖 (map of_term law)
  law_is_total [] = refl
  law_is_total (t ∷ law) = ap (𝓖.sum (of_term t)) (law_is_total law)

  pub law_reordered : (law law' : List Term) → IsPermutation law law' → law_sum 𝓖 law' r ≡ law_sum 𝓖 law r
  law_reordered law law' s =
      law_is_total law' ∙ total_reordered 𝓖 _ _ (IsPermutation-map of_term law law' s) ∙ sym (law_is_total law)

module _ {G : Type 0} (𝓖 : Group G) where
  -- what a row brings out of a set
  abbrev pub out_of : List G → (ℕ → Bool) → Row ℕ → G
  out_of values inside row = leaves 𝓖 inside row (read 𝓖 values (flow_of row))

  flow_is_total : (values : List G) (inside : ℕ → Bool) (rows : List (Row ℕ)) → net_flow 𝓖 rows values inside ≡ total 𝓖 (map (out_of values inside) rows)
  flow_is_total values inside [] = refl
  flow_is_total values inside (row ∷ rows) = ap (𝓖.sum (out_of values inside row)) (flow_is_total values inside rows)

  pub flow_reordered : (values : List G) (inside : ℕ → Bool) (rows rows' : List (Row ℕ)) → IsPermutation rows rows' → net_flow 𝓖 rows' values inside ≡ net_flow 𝓖 rows values inside
  flow_reordered values inside rows rows' s =
      flow_is_total values inside rows'
      ∙ total_reordered 𝓖 _ _ (IsPermutation-map (out_of values inside) rows rows' s)
      ∙ sym (flow_is_total values inside rows)

  -- where the new number of a node is in the one set exactly if the node is in the other
  module _ (to : Renaming) (old new : List G) (inside inside' : ℕ → Bool) where
    pub out_renamed : (row : Row ℕ) → AllByRecursion (λ n. inside' (to.node n) ≡ inside n) (nodes_of row) → AllByRecursion (Kept 𝓖 to old new) (of_row row) → out_of new inside' (renamed_row to row) ≡ out_of old inside row
    out_renamed (Branch flow across first second) n v = cc
    out_renamed (Earth flow across node) n v = cc

    pub flow_renamed : (rows : List (Row ℕ)) → AllByRecursion (λ row. out_of new inside' (renamed_row to row) ≡ out_of old inside row) rows → net_flow 𝓖 (map (renamed_row to) rows) new inside' ≡ net_flow 𝓖 rows old inside
    flow_renamed [] h = refl
    flow_renamed (row ∷ rows) h = ap₂ 𝓖.sum h.0 (flow_renamed rows h.1)
