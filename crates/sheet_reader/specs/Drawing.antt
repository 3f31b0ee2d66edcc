-- What a command does to a netlist: what it enters.
use Rattle.std.specs.Prelude.{ℕ, List, [], ◌∷◌, take, ℤ, pos, Some, None, Option, slice_index_or}
use Rattle.netlist.specs.declared.rows.Row.TheVariants.{Branch as BranchRow, Earth as EarthRow}
use Rattle.netlist.specs.declared.terms.RawTerm.{RawTerm}
use Rattle.netlist.specs.Netlist.{Netlist}
use Rattle.assembly.specs.Meaning.{Meaning}
use Rattle.parts.specs.declared.single.Single.{Single}
use Rattle.parts.specs.Single.{single}
use Rattle.repeat.specs.Repeat.{repeated}
use Rattle.calls.specs.declared.refusals.CallRefusal.{CallRefusal}
use Rattle.calls.specs.Entries.{Entry, node, variables, row, law, assembly, judge_entry, after_entry}
use Rattle.commands.specs.declared.terms.Terms.{Terms}
use Rattle.commands.specs.declared.command.Command.{Command}
use Rattle.commands.specs.declared.command.Command.TheVariants.{Node, Variables, Branch, Earth, Law, Repeat, Nothing}

abbrev pub law_of : Terms → List (RawTerm ℕ)
law_of terms = take terms.count terms.slots

-- the coefficients of a C line are those of the flow's value, the across's value, the flow's rate and the across's rate
abbrev pub single_of : ℕ → List ℤ → Single
single_of domain cs = record {
  domain = domain;
  flow = slice_index_or cs 0 (pos 0);
  across = slice_index_or cs 1 (pos 0);
  flow_rate = slice_index_or cs 2 (pos 0);
  across_rate = slice_index_or cs 3 (pos 0);
}

-- so many of these singles in series
abbrev pub singles : ℕ → List ℤ → ℕ → Meaning
singles domain cs times = repeated times (single (single_of domain cs))

-- what the command enters; a comment and an empty line enter nothing
abbrev pub entry_of_command : Command → Option Entry
entry_of_command (Node domain) = Some (node domain)
entry_of_command (Variables count) = Some (variables count)
entry_of_command (Branch flow across first second) = Some (row (BranchRow flow across first second))
entry_of_command (Earth flow across at) = Some (row (EarthRow flow across at))
entry_of_command (Law terms) = Some (law (law_of terms))
entry_of_command (Repeat domain cs times first second) =
    Some (assembly (singles domain cs times) (first ∷ second ∷ []))
entry_of_command Nothing = None

-- nothing is not refused, and leaves the netlist as it was
abbrev pub judge_entered : Netlist → Option Entry → Option CallRefusal
judge_entered b None = None
judge_entered b (Some entry) = judge_entry b entry

abbrev pub after_entered : Netlist → Option Entry → Netlist
after_entered b None = b
after_entered b (Some entry) = after_entry b entry

abbrev pub judge_command : Netlist → Command → Option CallRefusal
judge_command b command = judge_entered b (entry_of_command command)

-- a refused command leaves the netlist as it was
abbrev pub after_command : Netlist → Command → Netlist
after_command b command = after_entered b (entry_of_command command)
