-- Rows and laws under other numbers.
use Rattle.std.proofs.Common.{◌≡◌, ℕ, zero, suc, ◌+◌, List, [], ◌∷◌, map, refl, sym, ap, ap₂, add-one}
use Rattle.std.specs.List.Sorted.{IsPermutation}
use Rattle.std.proofs.lemmas.List.Sorted.{IsPermutation-map}
use Rattle.std.proofs.lemmas.Simd.{map-map}
use Rattle.netlist.specs.declared.rows.Row.{Row}
use Rattle.netlist.specs.declared.rows.Row.TheVariants.{Branch, Earth}
use Rattle.netlist.specs.declared.terms.Term.{Term}
use Rattle.likeness.specs.Alike.{nodes_of, Undone}
use Rattle.netlist.specs.Renaming.{Renaming, renamed_row, renamed_law}
use Rattle.netlist.specs.Rows.{flow_of, across_of}
use Rattle.network.specs.Walks.{tail_of, head_of}
use Rattle.likeness.specs.Turning.{unchanged, onward}

-- the variables that a row and a law name
abbrev pub of_row : Row ℕ → List ℕ
of_row row = flow_of row ∷ across_of row ∷ []

abbrev pub of_law : List Term → List ℕ
of_law law = map (λ t. t.variable) law

-- a vertex under other numbers of the nodes: the earth stays
abbrev pub vertex : (ℕ → ℕ) → ℕ → ℕ
vertex node zero = 0
vertex node (suc n) = node n + 1

module _ (to : Renaming) where
  pub nodes_renamed : (row : Row ℕ) → nodes_of (renamed_row to row) ≡ map to.node (nodes_of row)
  nodes_renamed (Branch flow across first second) = refl
  nodes_renamed (Earth flow across node) = refl

  pub row_renamed : (row : Row ℕ) → of_row (renamed_row to row) ≡ map to.variable (of_row row)
  row_renamed (Branch flow across first second) = refl
  row_renamed (Earth flow across node) = refl

  pub law_renamed : (law : List Term) → of_law (renamed_law to law) ≡ map to.variable (of_law law)
  law_renamed [] = refl
  law_renamed (t ∷ law) = ap (λ vs. to.variable t.variable ∷ vs) (law_renamed law)

  -- a law under other numbers keeps its terms
  pub law_keeps : (law law' : List Term) → IsPermutation law law' → IsPermutation (renamed_law to law) (renamed_law to law')
  law_keeps law law' s = IsPermutation-map _ law law' s

  pub across_renamed : (row : Row ℕ) → across_of (renamed_row to row) ≡ to.variable (across_of row)
  across_renamed (Branch flow across first second) = refl
  across_renamed (Earth flow across node) = refl

  pub tail_renamed : (row : Row ℕ) → tail_of (renamed_row to row) ≡ vertex to.node (tail_of row)
  tail_renamed (Branch flow across first second) = sym (ap (vertex to.node) (add-one first))
  tail_renamed (Earth flow across node) = sym (ap (vertex to.node) (add-one node))

  pub head_renamed : (row : Row ℕ) → head_of (renamed_row to row) ≡ vertex to.node (head_of row)
  head_renamed (Branch flow across first second) = sym (ap (vertex to.node) (add-one second))
  head_renamed (Earth flow across node) = refl

-- numbers that stay
pub row_unchanged : (row : Row ℕ) → renamed_row unchanged row ≡ row
row_unchanged (Branch flow across first second) = refl
row_unchanged (Earth flow across node) = refl

-- numbers that lead back
module _ (there back : Renaming) where
  pub row_undone : (row : Row ℕ) → Undone there.node back.node (nodes_of row) → Undone there.variable back.variable (of_row row) → renamed_row back (renamed_row there row) ≡ row
  row_undone (Branch flow across first second) n v = cc
  row_undone (Earth flow across node) n v = cc

  pub law_undone : (law : List Term) → Undone there.variable back.variable (of_law law) → renamed_law back (renamed_law there law) ≡ law
  law_undone [] v = refl
  law_undone (t ∷ law) v = ap₂ (λ (n : ℕ) (ts : List Term). record { coefficient = t.coefficient; order = t.order; variable = n } ∷ ts) v.0 (law_undone law v.1)

-- numbers twice over
module _ (to further : Renaming) where
  pub row_onward : (row : Row ℕ) → renamed_row further (renamed_row to row) ≡ renamed_row (onward to further) row
  row_onward (Branch flow across first second) = refl
  row_onward (Earth flow across node) = refl

  pub law_onward : (law : List Term) → renamed_law further (renamed_law to law) ≡ renamed_law (onward to further) law
  law_onward law = map-map _ _ law
