-- When a step can be made, what it answers, and the netlist after it.
use Rattle.std.specs.Prelude.{◌≡◌, ℕ, ◌+◌, Bool, true, cond, not, ◌&&◌, min, ◌==◌, nat_lt, nat_le}
use Rattle.std.specs.Prelude.{List, [], ◌∷◌, ◌++◌, map, length, take, Some, None, Option}
use Rattle.std.specs.List.{list_all}
use Rattle.netlist.specs.declared.domains.Domain.{Domain}
use Rattle.netlist.specs.declared.rows.Row.{Row}
use Rattle.netlist.specs.declared.terms.RawTerm.{RawTerm}
use Rattle.netlist.specs.declared.terms.Term.{Term}
use Rattle.netlist.specs.Domains.{domain_number}
use Rattle.netlist.specs.Limits.{most_nodes, most_variables, most_rows, most_laws, most_terms}
use Rattle.netlist.specs.Netlist.{Netlist, term_of, term_count, with_nodes}
use Rattle.netlist.specs.Rows.{flow_of, across_of, taken_by, stands_on}
use Rattle.netlist.specs.Sound.{joins, names, is_sized, is_term_count}

-- The number of the next entry of a table, if the step is made.
abbrev pub number_if : Bool → ℕ → Option ℕ
number_if fits next = cond fits (Some next) None

abbrev pub left_if : Bool → Netlist → Netlist → Netlist
left_if fits before done = cond fits done before

abbrev pub node_fits : Netlist → Bool
node_fits b = nat_lt (length b.domains) most_nodes

abbrev pub with_node : Netlist → Domain → Netlist
with_node b domain = with_nodes b (domain_number domain ∷ [])

abbrev pub variables_fit : Netlist → ℕ → Bool
variables_fit b count = nat_le (b.variables + count) most_variables

-- the variable is drawn, and no row has it
abbrev pub is_free : Netlist → ℕ → Bool
is_free b v = nat_lt v b.variables && not (taken_by b.rows v)

-- both variables of the row are free, and not the same
abbrev pub has_free : Netlist → Row ℕ → Bool
has_free b row = is_free b (flow_of row) && (is_free b (across_of row) && not (across_of row == flow_of row))

abbrev pub row_fits : Netlist → Row ℕ → Bool
row_fits b row = joins b.domains row && (has_free b row && nat_lt (length b.rows) most_rows)

-- a law of these terms keeps to a law's bounds, over variables 0 to n - 1
abbrev pub is_lawful : ℕ → List Term → Bool
is_lawful n law = is_term_count (length law) && (list_all (names n) law && list_all is_sized law)

-- beside these laws there is room for one more, of so many terms
abbrev pub has_room : List (List Term) → ℕ → Bool
has_room laws count = nat_lt (length laws) most_laws && nat_le (term_count laws + count) most_terms

abbrev pub law_fits : Netlist → List Term → Bool
law_fits b law = is_lawful b.variables law && has_room b.laws (length law)

abbrev pub with_law : Netlist → List Term → Netlist
with_law b law = record b { laws = b.laws ++ law ∷ [] }

-- the raw term's order is that of the value or of the rate
abbrev pub has_order : RawTerm ℕ → Bool
has_order raw = nat_le raw.order 1

abbrev pub have_orders : List (RawTerm ℕ) → Bool
have_orders raw = list_all has_order raw

-- each of these raw terms has an order, and the terms for which they stand are a law that fits
abbrev pub raw_law_fits : Netlist → List (RawTerm ℕ) → Bool
raw_law_fits b raw = have_orders raw && law_fits b (map term_of raw)

-- the raw term stands for a term that a law over variables 0 to n - 1 may have
abbrev pub raw_term_fits : ℕ → RawTerm ℕ → Bool
raw_term_fits n raw = has_order raw && (names n (term_of raw) && is_sized (term_of raw))

-- where one law's terms name only variables below n, so do the other's, for each n
abbrev pub NamesNoMore : List Term → List Term → Type 0
NamesNoMore old new = (n : ℕ) → list_all (names n) old ≡ true → list_all (names n) new ≡ true

-- the row has variables below n alone
abbrev pub has_only : ℕ → Row ℕ → Bool
has_only n row = nat_lt (flow_of row) n && nat_lt (across_of row) n

-- no row and no law has a variable from n on
abbrev pub no_variable_from : Netlist → ℕ → Bool
no_variable_from b n = list_all (has_only n) b.rows && list_all (list_all (names n)) b.laws

-- no row stands on a node from n on
abbrev pub no_node_from : Netlist → ℕ → Bool
no_node_from b n = list_all (stands_on n) b.rows

-- what is left where variables or nodes from n on are taken back
abbrev pub left_variables : Netlist → ℕ → Netlist
left_variables b n = left_if (no_variable_from b n) b (record b { variables = min n b.variables })

abbrev pub left_nodes : Netlist → ℕ → Netlist
left_nodes b n = left_if (no_node_from b n) b (record b { domains = take n b.domains })
