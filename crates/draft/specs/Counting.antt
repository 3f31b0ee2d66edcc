-- Whether so much more finds room in a netlist.
use Rattle.std.specs.Prelude.{ℕ, ◌+◌, [], ◌∷◌, length, nat_lt}
use Rattle.netlist.specs.Limits.{most_nodes, most_variables, most_rows, most_laws, most_terms}
use Rattle.netlist.specs.Netlist.{Netlist, term_count}
use Rattle.refusal.specs.Tests.{Tests}
use Rattle.sheet.specs.declared.counts.Counts.{Counts}
use Rattle.draft.specs.declared.refusals.Table.{Table}
use Rattle.draft.specs.declared.refusals.Table.TheVariants.{Nodes, Variables, Rows, Laws, Terms}

-- so much more, with so many terms in its laws, would pass the limit of a table
abbrev pub room_tests : Netlist → Counts → ℕ → Tests Table
room_tests b more terms =
    (nat_lt most_nodes (length b.domains + more.nodes), Nodes)
    ∷ (nat_lt most_variables (b.variables + more.variables), Variables)
    ∷ (nat_lt most_rows (length b.rows + more.rows), Rows)
    ∷ (nat_lt most_laws (length b.laws + more.laws), Laws)
    ∷ (nat_lt most_terms (term_count b.laws + terms), Terms)
    ∷ []
