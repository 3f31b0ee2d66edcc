-- Whether each node that rows name has a potential.
use Rattle.std.specs.Prelude.{ℕ, Bool, not, ◌&&◌, nat_lt, if◌then◌else◌, List, position, Option, Some, None}
use Rattle.std.specs.Prelude.{Result, Ok, Err}
use Rattle.netlist.specs.Rows.{stands_on}
use Rattle.netlist.specs.Limits.{most_nodes}
use Rattle.netlist.specs.declared.rows.Row.{Row}
use Rattle.netlist.specs.declared.rows.Row.TheVariants.{Branch, Earth}
use Rattle.walk_test.specs.declared.findings.Misfit.{Misfit}
use Rattle.walk_test.specs.declared.findings.Misfit.TheVariants.{TooMany, Undrawn}

-- the lowest row that names another node
abbrev pub first_undrawn : List (Row ℕ) → ℕ → Option ℕ
first_undrawn rows n = position (λ row. not (stands_on n row)) rows

abbrev pub undrawn : Option ℕ → Result (Unit {0}) Misfit
undrawn None = Ok tt
undrawn (Some k) = Err (Undrawn k)

-- a workspace serves n nodes, and each row names none but these; or the first of this that fails
abbrev pub judged : List (Row ℕ) → ℕ → Result (Unit {0}) Misfit
judged rows n = if nat_lt most_nodes n then Err TooMany else undrawn (first_undrawn rows n)
