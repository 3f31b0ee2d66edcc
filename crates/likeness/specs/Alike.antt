-- Two netlists that say the same in another order and with other numbers.
use Rattle.std.specs.Prelude.{◌≡◌, ℕ, List, [], ◌∷◌, ◌++◌, map}
use Rattle.std.specs.List.{AllByRecursion, flat_map}
use Rattle.std.specs.List.Sorted.{IsPermutation}
use Rattle.netlist.specs.declared.rows.Row.{Row}
use Rattle.netlist.specs.declared.rows.Row.TheVariants.{Branch, Earth}
use Rattle.netlist.specs.declared.terms.Term.{Term}
use Rattle.netlist.specs.Netlist.{Netlist}
use Rattle.netlist.specs.Renaming.{Renaming, renamed_row, renamed_law}
use Rattle.netlist.specs.Rows.{flow_of, across_of}

-- the nodes that a row names
abbrev pub nodes_of : Row ℕ → List ℕ
nodes_of (Branch flow across first second) = first ∷ second ∷ []
nodes_of (Earth flow across node) = node ∷ []

-- the nodes and the variables that occur in a netlist: those that its rows and laws name
abbrev pub nodes_in : Netlist → List ℕ
nodes_in b = flat_map nodes_of b.rows

abbrev pub variables_in : Netlist → List ℕ
variables_in b =
    flat_map (λ row. flow_of row ∷ across_of row ∷ []) b.rows ++ flat_map (λ law. map (λ t. t.variable) law) b.laws

-- the second numbering undoes the first on each of these
abbrev pub Undone : (ℕ → ℕ) → (ℕ → ℕ) → List ℕ → Type 0
Undone there back ns = AllByRecursion (λ n. back (there n) ≡ n) ns

-- The laws of two lists can be paired, each with one that has the same terms in some order.
pub record SameLaws (laws laws' : List (List Term)) : Type 0 where
  pub pairs : List (List Term × List Term)
  pub firsts : IsPermutation laws (map (λ p. p.0) pairs)
  pub seconds : IsPermutation (map (λ p. p.1) pairs) laws'
  pub terms : AllByRecursion (λ p. IsPermutation p.0 p.1) pairs

-- The rows and laws of c are those of b in some order, the terms of each law in some order too, with other numbers, of
-- which no two that occur fall together.
pub record Alike (b c : Netlist) : Type 0 where
  pub there : Renaming
  pub back : Renaming
  pub nodes : Undone there.node back.node (nodes_in b)
  pub variables : Undone there.variable back.variable (variables_in b)
  pub rows : IsPermutation (map (renamed_row there) b.rows) c.rows
  pub laws : SameLaws (map (renamed_law there) b.laws) c.laws
