-- When a call is refused, what it answers, and the netlist after it. Each call has a table: tests in
-- their order, each with the refusal that it leads to.
use Rattle.std.specs.Prelude.{ℕ, ◌+◌, Bool, not, ◌||◌, List, [], ◌∷◌}
use Rattle.std.specs.Prelude.{◌++◌, length, Option, Result, ◌==◌, nat_le, nat_lt, slice_index}
use Rattle.draft.specs.declared.refusals.Argument.TheVariants.{Domain as DomainNumber, Flow, Across}
use Rattle.draft.specs.declared.refusals.Argument.TheVariants.{First, Second, Node, Term as TermNumber}
use Rattle.draft.specs.declared.refusals.DraftRefusal.{DraftRefusal}
use Rattle.draft.specs.declared.refusals.DraftRefusal.TheVariants.{Limit, NoNode, NoVariable, Domain}
use Rattle.draft.specs.declared.refusals.DraftRefusal.TheVariants.{Taken, Coefficient, TermCount, Order}
use Rattle.draft.specs.declared.refusals.Table.TheVariants.{Nodes, Variables, Rows, Laws, Terms}
use Rattle.netlist.specs.declared.rows.Row.{Row}
use Rattle.netlist.specs.declared.rows.Row.TheVariants.{Branch, Earth}
use Rattle.netlist.specs.declared.terms.RawTerm.{RawTerm}
use Rattle.netlist.specs.declared.terms.Term.{Term}
use Rattle.netlist.specs.Domains.{no_domain}
use Rattle.netlist.specs.Netlist.{Netlist, term_count, with_nodes, with_variables, with_rows, with_laws}
use Rattle.netlist.specs.Limits.{most_nodes, most_variables, most_rows}
use Rattle.netlist.specs.Limits.{most_laws, most_terms, no_coefficient, no_term_count}
use Rattle.netlist.specs.Rows.{taken_by}
use Rattle.refusal.specs.Tests.{Tests, first_of, answer, after}

-- node(domain)
abbrev pub table_node : Netlist → ℕ → Tests DraftRefusal
table_node b domain =
    (no_domain domain, Domain DomainNumber)
    ∷ (nat_le most_nodes (length b.domains), Limit Nodes)
    ∷ []

abbrev pub judge_node : Netlist → ℕ → Option DraftRefusal
judge_node b domain = first_of (table_node b domain)

abbrev pub answer_node : Netlist → ℕ → Result ℕ DraftRefusal
answer_node b domain = answer (judge_node b domain) (length b.domains)

abbrev pub after_node : Netlist → ℕ → Netlist
after_node b domain = after (judge_node b domain) b (with_nodes b (domain ∷ []))

-- variables(count)
abbrev pub table_variables : Netlist → ℕ → Tests DraftRefusal
table_variables b count =
    (nat_lt most_variables (b.variables + count), Limit Variables)
    ∷ []

abbrev pub judge_variables : Netlist → ℕ → Option DraftRefusal
judge_variables b count = first_of (table_variables b count)

abbrev pub answer_variables : Netlist → ℕ → Result ℕ DraftRefusal
answer_variables b count = answer (judge_variables b count) b.variables

abbrev pub after_variables : Netlist → ℕ → Netlist
after_variables b count = after (judge_variables b count) b (with_variables b count)

-- What can be wrong with a row, apart from want of room, among nodes of these domains and variables
-- 0 to n - 1, where taken says which of them a row has already.
abbrev pub no_node : List ℕ → ℕ → Bool
no_node domains n = nat_le (length domains) n

abbrev pub domain_of : List ℕ → ℕ → ℕ
domain_of domains n = slice_index domains n

abbrev pub row_tests : List ℕ → ℕ → (ℕ → Bool) → Row ℕ → Tests DraftRefusal
row_tests domains n taken (Branch flow across first second) =
    (no_node domains first, NoNode First)
    ∷ (no_node domains second, NoNode Second)
    ∷ (nat_le n flow, NoVariable Flow)
    ∷ (nat_le n across, NoVariable Across)
    ∷ (taken flow, Taken Flow)
    ∷ (taken across || (across == flow), Taken Across)
    ∷ (not (domain_of domains first == domain_of domains second), Domain Second)
    ∷ []
row_tests domains n taken (Earth flow across node) =
    (no_node domains node, NoNode Node)
    ∷ (nat_le n flow, NoVariable Flow)
    ∷ (nat_le n across, NoVariable Across)
    ∷ (taken flow, Taken Flow)
    ∷ (taken across || (across == flow), Taken Across)
    ∷ []

abbrev pub table_row : Netlist → Row ℕ → Tests DraftRefusal
table_row b row = row_tests b.domains b.variables (taken_by b.rows) row

abbrev pub room_row : List (Row ℕ) → Tests DraftRefusal
room_row rows = (nat_le most_rows (length rows), Limit Rows) ∷ []

-- branch(flow, across, first, second) and earth(flow, across, node)
abbrev pub judge_row : Netlist → Row ℕ → Option DraftRefusal
judge_row b row = first_of (table_row b row ++ room_row b.rows)

abbrev pub answer_row : Netlist → Row ℕ → Result ℕ DraftRefusal
answer_row b row = answer (judge_row b row) (length b.rows)

abbrev pub after_row : Netlist → Row ℕ → Netlist
after_row b row = after (judge_row b row) b (with_rows b (row ∷ []))

-- What can be wrong with a law, apart from want of room, over variables 0 to n - 1. Its terms are
-- counted from 1.
abbrev pub table_term : ℕ → ℕ → RawTerm ℕ → Tests DraftRefusal
table_term n i t =
    (no_coefficient t.coefficient, Coefficient i)
    ∷ (nat_lt 1 t.order, Order i)
    ∷ (nat_le n t.variable, NoVariable (TermNumber i))
    ∷ []

-- the terms in turn, the first of them being term i
abbrev pub table_terms : ℕ → ℕ → List (RawTerm ℕ) → Tests DraftRefusal
table_terms n i [] = []
table_terms n i (t ∷ ts) = table_term n i t ++ table_terms n (i + 1) ts

abbrev pub table_law : ℕ → List (RawTerm ℕ) → Tests DraftRefusal
table_law n ts = (no_term_count (length ts), TermCount) ∷ table_terms n 1 ts

abbrev pub room_law : List (List Term) → ℕ → Tests DraftRefusal
room_law laws count =
    (nat_le most_laws (length laws), Limit Laws)
    ∷ (nat_lt most_terms (term_count laws + count), Limit Terms)
    ∷ []

-- law(terms)
abbrev pub judge_law : Netlist → List (RawTerm ℕ) → Option DraftRefusal
judge_law b ts = first_of (table_law b.variables ts ++ room_law b.laws (length ts))

abbrev pub answer_law : Netlist → List (RawTerm ℕ) → Result ℕ DraftRefusal
answer_law b ts = answer (judge_law b ts) (length b.laws)

abbrev pub after_law : Netlist → List (RawTerm ℕ) → Netlist
after_law b ts = after (judge_law b ts) b (with_laws b (ts ∷ []))
