-- What calls make of a netlist.
use Rattle.std.specs.Prelude.{List, [], ◌∷◌}
use Rattle.std.specs.List.{fold}
use Rattle.netlist.specs.declared.rows.Row.TheVariants.{Branch as BranchRow, Earth as EarthRow}
use Rattle.netlist.specs.Netlist.{Netlist}
use Rattle.assembly.specs.Meaning.{Meaning}
use Rattle.calls.specs.declared.calls.Call.{Call}
use Rattle.calls.specs.declared.calls.Call.TheVariants.{Node, Variables, Branch, Earth, Law, Place}
use Rattle.calls.specs.Entries.{Entry, node, variables, row, law, assembly, after_entry}

-- what the call enters, by what an assembly of A means
abbrev pub entry_of : {A : Type 0} → (A → Meaning) → Call A → Entry
entry_of meaning (Node domain) = node domain
entry_of meaning (Variables count) = variables count
entry_of meaning (Branch flow across first second) = row (BranchRow flow across first second)
entry_of meaning (Earth flow across at) = row (EarthRow flow across at)
entry_of meaning (Law terms) = law terms.now
entry_of meaning (Place part first second) = assembly (meaning part) (first ∷ second ∷ [])

-- one call
abbrev pub enter : {A : Type 0} → (A → Meaning) → Netlist → Call A → Netlist
enter meaning b call = after_entry b (entry_of meaning call)

-- all of them in turn
abbrev pub entered : {A : Type 0} → (A → Meaning) → Netlist → List (Call A) → Netlist
entered meaning b calls = fold (enter meaning) b calls
