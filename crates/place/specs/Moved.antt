-- What a plan adds to a netlist where it is placed.
use Rattle.std.specs.Prelude.{ℕ, ◌+◌, ◌-◌, cond, List, map, length, nat_lt, slice_index}
use Rattle.netlist.specs.declared.rows.Row.{Row}
use Rattle.netlist.specs.declared.terms.RawTerm.{RawTerm}
use Rattle.netlist.specs.Domains.{domain_number}
use Rattle.netlist.specs.Netlist.{Netlist, with_nodes, with_variables, with_rows, with_laws}
use Rattle.netlist.specs.Renaming.{Renaming, renamed_row}
use Rattle.assembly.specs.Meaning.{Plan}
use Rattle.plan_judging.specs.Terms.{law_from}

-- The plan's ends become the nodes given for them, in their order. Its inner nodes come behind the nodes
-- that are drawn, of which there are so many, and its variables behind the variables.
abbrev pub moved_node : ℕ → List ℕ → ℕ → ℕ
moved_node nodes given n = cond (nat_lt n (length given)) (slice_index given n) (nodes + (n - length given))

-- the new numbers, behind so many nodes and variables
abbrev pub moving : ℕ → ℕ → List ℕ → Renaming
moving nodes variables given = record { node = moved_node nodes given; variable = λ v. variables + v }

abbrev pub moved_row : ℕ → ℕ → List ℕ → Row ℕ → Row ℕ
moved_row nodes variables given row = renamed_row (moving nodes variables given) row

abbrev pub moved_rows : Netlist → List ℕ → Plan → List (Row ℕ)
moved_rows b given p = map (moved_row (length b.domains) b.variables given) p.rows

abbrev pub moved_laws : Netlist → Plan → List (List (RawTerm ℕ))
moved_laws b p = map (law_from b.variables) p.laws

-- with the plan's inner nodes and its variables
abbrev pub widened : Netlist → Plan → Netlist
widened b p = with_variables (with_nodes b (map domain_number p.inner)) p.variables

-- and with its rows and laws
abbrev pub with_plan : Netlist → List ℕ → Plan → Netlist
with_plan b given p = with_laws (with_rows (widened b p) (moved_rows b given p)) (moved_laws b p)
