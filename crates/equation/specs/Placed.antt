-- Where the flows stand in the equations of the nodes: what the listed equations owe to the rows, told
-- row by row.
use Rattle.std.specs.Prelude.{◌≡◌, ℕ, ◌+◌, ◌<◌, cond, List, [], ◌∷◌, length, ◌==◌, ◌≢◌, slice_index_or}
use Rattle.netlist.specs.declared.rows.Row.{Row}
use Rattle.netlist.specs.declared.rows.Row.TheVariants.{Branch, Earth}
use Rattle.netlist.specs.declared.terms.Term.{Term}
use Rattle.netlist.specs.Netlist.{Netlist}
use Rattle.netlist.specs.Rows.{flow_of}
use Rattle.equation.specs.Equations.{plus, minus, equations_of}

-- the equation of node n, which comes after the laws
abbrev pub node_equation : Netlist → ℕ → List Term
node_equation b n = slice_index_or (equations_of b) (length b.laws + n) []

-- the terms of an equation that name variable v
abbrev pub naming : ℕ → List Term → List Term
naming v [] = []
naming v (t ∷ ts) = cond (t.variable == v) (t ∷ naming v ts) (naming v ts)

-- the flow of a branch between two nodes: +1 at the first, -1 at the second, and nowhere else
pub record Between (b : Netlist) (flow first second : ℕ) : Type 0 where
  pub leaves : naming flow (node_equation b first) ≡ plus flow ∷ []
  pub enters : naming flow (node_equation b second) ≡ minus flow ∷ []
  pub elsewhere : (n : ℕ) → n < length b.domains → (n ≢ first) → (n ≢ second) → naming flow (node_equation b n) ≡ []

-- the flow of an earth: +1 at its node, and nowhere else
pub record Earthed (b : Netlist) (flow node : ℕ) : Type 0 where
  pub leaves : naming flow (node_equation b node) ≡ plus flow ∷ []
  pub elsewhere : (n : ℕ) → n < length b.domains → (n ≢ node) → naming flow (node_equation b n) ≡ []

-- a variable in no node's equation
abbrev pub Absent : Netlist → ℕ → Type 0
Absent b v = (n : ℕ) → n < length b.domains → naming v (node_equation b n) ≡ []

-- a variable that is no row's flow
abbrev pub NoFlow : Netlist → ℕ → Type 0
NoFlow b v = (k : ℕ) (d : Row ℕ) → k < length b.rows → flow_of (slice_index_or b.rows k d) ≢ v

-- a branch that ends where it begins stands nowhere
abbrev pub PlacedRow : Netlist → Row ℕ → Type 0
PlacedRow b (Branch flow across first second) =
    (first ≡ second → Absent b flow) × ((first ≢ second) → Between b flow first second)
PlacedRow b (Earth flow across node) = Earthed b flow node

pub record Placed (b : Netlist) : Type 0 where
  -- laws, nodes and rows have one equation each
  pub count : length (equations_of b) ≡ length b.laws + length b.domains + length b.rows
  -- the places of each row's flow
  pub rows : (k : ℕ) (d : Row ℕ) → k < length b.rows → PlacedRow b (slice_index_or b.rows k d)
  -- what is no row's flow stands in no node's equation
  pub others : (v : ℕ) → NoFlow b v → Absent b v
