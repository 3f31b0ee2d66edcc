-- A netlist: what a draft or a sheet says, apart from how it is stored.
use Rattle.std.specs.Prelude.{ℕ, ◌+◌, cond, List, [], ◌∷◌, ◌++◌, map, length, ◌==◌}
use Rattle.netlist.specs.declared.rows.Row.{Row}
use Rattle.netlist.specs.declared.terms.Order.{Order}
use Rattle.netlist.specs.declared.terms.Order.TheVariants.{Value, Rate}
use Rattle.netlist.specs.declared.terms.RawTerm.{RawTerm}
use Rattle.netlist.specs.declared.terms.Term.{Term}

-- The nodes' domains, how many variables there are, the rows, and the laws, each in the order in
-- which it was accepted. The number of a node, a variable, a row or a law is its place here, from 0.
pub record Netlist : Type 0 where
  pub domains : List ℕ
  pub variables : ℕ
  pub rows : List (Row ℕ)
  pub laws : List (List Term)

abbrev pub empty : Netlist
empty = record { domains = []; variables = 0; rows = []; laws = [] }

-- how many terms the laws have together
abbrev pub term_count : {X : Type 0} → List (List X) → ℕ
term_count [] = 0
term_count (law ∷ laws) = length law + term_count laws

abbrev pub order_of : ℕ → Order
order_of n = cond (n == 0) Value Rate

-- the term that a raw term stands for, once it has passed
abbrev pub term_of : RawTerm ℕ → Term
term_of t = record { coefficient = t.coefficient; order = order_of t.order; variable = t.variable }

-- A netlist with more in it. What is new comes last, so nothing is renumbered.
abbrev pub with_nodes : Netlist → List ℕ → Netlist
with_nodes b new = record b { domains = b.domains ++ new }

abbrev pub with_variables : Netlist → ℕ → Netlist
with_variables b count = record b { variables = b.variables + count }

abbrev pub with_rows : Netlist → List (Row ℕ) → Netlist
with_rows b new = record b { rows = b.rows ++ new }

-- laws as they are written
abbrev pub with_laws : Netlist → List (List (RawTerm ℕ)) → Netlist
with_laws b new = record b { laws = b.laws ++ map (map term_of) new }
