-- Other numbers for nodes and variables: the one rule by which a plan's rows go into a layer or a netlist, and by which
-- netlists are compared.
use Rattle.std.specs.Prelude.{ℕ, List, map}
use Rattle.netlist.specs.declared.rows.Row.{Row}
use Rattle.netlist.specs.declared.rows.Row.TheVariants.{Branch, Earth}
use Rattle.netlist.specs.declared.terms.RawTerm.{RawTerm}
use Rattle.netlist.specs.declared.terms.Term.{Term}

pub record Renaming : Type 0 where
  pub node : ℕ → ℕ
  pub variable : ℕ → ℕ

abbrev pub renamed_row : Renaming → Row ℕ → Row ℕ
renamed_row to (Branch flow across first second) =
    Branch (to.variable flow) (to.variable across) (to.node first) (to.node second)
renamed_row to (Earth flow across node) = Earth (to.variable flow) (to.variable across) (to.node node)

abbrev pub renamed_term : Renaming → Term → Term
renamed_term to t = record t { variable = to.variable t.variable }

-- a term that is not judged yet
abbrev pub renamed_raw_term : Renaming → RawTerm ℕ → RawTerm ℕ
renamed_raw_term to t = record t { variable = to.variable t.variable }

abbrev pub renamed_law : Renaming → List Term → List Term
renamed_law to law = map (renamed_term to) law
