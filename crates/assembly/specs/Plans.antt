-- The rows and terms of a plan: those of a netlist, in the plan's own numbers. And how much a plan may have.
use Rattle.std.specs.Prelude.{ℕ}
use Rattle.netlist.specs.declared.rows.Row.{Row}
use Rattle.netlist.specs.declared.terms.RawTerm.{RawTerm}

abbrev pub PlanRow : Type 0
PlanRow = Row ℕ

abbrev pub PlanTerm : Type 0
PlanTerm = RawTerm ℕ

-- a plan has at most so many inner nodes, variables, rows and laws, of each
abbrev pub most_of_plan : ℕ
most_of_plan = 6000
