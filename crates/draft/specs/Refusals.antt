-- The number, the place and the cause of each refusal of a draft's calls.
use Rattle.std.specs.Prelude.{ℕ}
use Rattle.draft.specs.declared.refusals.Argument.{Argument}
use Rattle.draft.specs.declared.refusals.Argument.TheVariants.{Domain as DomainNumber, Flow, Across}
use Rattle.draft.specs.declared.refusals.Argument.TheVariants.{First, Second, Node, Term as TermNumber}
use Rattle.draft.specs.declared.refusals.DraftRefusal.{DraftRefusal}
use Rattle.draft.specs.declared.refusals.DraftRefusal.TheVariants.{Limit, NoNode, NoVariable, Domain}
use Rattle.draft.specs.declared.refusals.DraftRefusal.TheVariants.{Taken, Coefficient, TermCount, Order}
use Rattle.draft.specs.declared.refusals.Table.{Table}
use Rattle.draft.specs.declared.refusals.Table.TheVariants.{Nodes, Variables, Rows, Laws, Terms}

abbrev pub number_of : DraftRefusal → ℕ
number_of (Limit table) = 1
number_of (NoNode at) = 2
number_of (NoVariable at) = 3
number_of (Domain at) = 4
number_of (Taken at) = 5
number_of (Coefficient term) = 6
number_of TermCount = 7
number_of (Order term) = 10

abbrev pub table_number : Table → ℕ
table_number Nodes = 1
table_number Variables = 2
table_number Rows = 3
table_number Laws = 4
table_number Terms = 5

-- The place of an argument among those of its call, from 1: node(domain), branch(flow, across, first,
-- second), earth(flow, across, node), law(term, term, ..).
abbrev pub argument_number : Argument → ℕ
argument_number DomainNumber = 1
argument_number Flow = 1
argument_number Across = 2
argument_number First = 3
argument_number Second = 4
argument_number Node = 3
argument_number (TermNumber term) = term

-- the argument or term at fault, or for a limit the table
abbrev pub place_of : DraftRefusal → ℕ
place_of (Limit table) = table_number table
place_of (NoNode at) = argument_number at
place_of (NoVariable at) = argument_number at
place_of (Domain at) = argument_number at
place_of (Taken at) = argument_number at
place_of (Coefficient term) = term
place_of TermCount = 0
place_of (Order term) = term

abbrev pub cause_of : DraftRefusal → ℕ
cause_of (Limit table) = 0
cause_of (NoNode at) = 0
cause_of (NoVariable at) = 0
cause_of (Domain at) = 0
cause_of (Taken at) = 0
cause_of (Coefficient term) = 0
cause_of TermCount = 0
cause_of (Order term) = 0
