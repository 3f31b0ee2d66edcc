-- What is entered on a netlist: the same for every call, whoever keeps it and however.
use Rattle.std.specs.Prelude.{ℕ, List, Option, Result}
use Rattle.std.specs.Option.{option_map}
use Rattle.netlist.specs.declared.rows.Row.{Row}
use Rattle.netlist.specs.declared.terms.RawTerm.{RawTerm}
use Rattle.netlist.specs.Netlist.{Netlist}
use Rattle.refusal.specs.Tests.{answer}
use Rattle.draft.specs.Rules.{judge_node, judge_variables, judge_row, judge_law, after_node, after_variables, after_row, after_law}
use Rattle.assembly.specs.Meaning.{Meaning}
use Rattle.place.specs.Place.{judge_place, after_place}
use Rattle.calls.specs.declared.refusals.CallRefusal.{CallRefusal}
use Rattle.calls.specs.declared.refusals.CallRefusal.TheVariants.{Draft, Place}

pub data Entry : Type 0 where
  -- a node of a domain
  node : ℕ → Entry
  -- so many variables
  variables : ℕ → Entry
  row : Row ℕ → Entry
  -- a law of these terms
  law : List (RawTerm ℕ) → Entry
  -- what an assembly means, with its ends at these nodes
  assembly : Meaning → List ℕ → Entry

-- why it is refused, by the table of its call
abbrev pub judge_entry : Netlist → Entry → Option CallRefusal
judge_entry b (node domain) = option_map Draft (judge_node b domain)
judge_entry b (variables count) = option_map Draft (judge_variables b count)
judge_entry b (row r) = option_map Draft (judge_row b r)
judge_entry b (law terms) = option_map Draft (judge_law b terms)
judge_entry b (assembly meaning nodes) = option_map Place (judge_place b meaning nodes)

-- whether it is refused, and why
abbrev pub answer_entry : Netlist → Entry → Result (Unit {0}) CallRefusal
answer_entry b entry = answer (judge_entry b entry) tt

-- the netlist once it is entered; what is refused leaves the netlist as it was
abbrev pub after_entry : Netlist → Entry → Netlist
after_entry b (node domain) = after_node b domain
after_entry b (variables count) = after_variables b count
after_entry b (row r) = after_row b r
after_entry b (law terms) = after_law b terms
after_entry b (assembly meaning nodes) = after_place b meaning nodes
