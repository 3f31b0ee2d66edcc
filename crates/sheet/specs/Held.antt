-- What tables hold, and the netlist that this stands for.
use Rattle.std.specs.Prelude.{◌≡◌, true, List, map, vec_len}
use Rattle.std.specs.List.{list_all}
use Rattle.netlist.specs.declared.terms.Term.{Term}
use Rattle.netlist.specs.Domains.{domain_number}
use Rattle.netlist.specs.Flags.{Marked}
use Rattle.netlist.specs.Limits.{most_nodes, most_variables, most_rows}
use Rattle.netlist.specs.Netlist.{Netlist}
use Rattle.netlist.specs.Pieces.{pieces}
use Rattle.netlist.specs.Sound.{joins, names}
use Rattle.sheet.specs.declared.laws.LawTable.{LawTable}
use Rattle.sheet.specs.declared.tables.Tables.TheInside.{Inside}
use Rattle.sheet.specs.Room.{Roomy}
use Rattle.sheet.specs.Tiling.{lengths}

abbrev pub laws_of : LawTable → List (List Term)
laws_of t = pieces (lengths t.spans.items) t.terms.items

abbrev pub netlist_of : Inside → Netlist
netlist_of t = record {
  domains = map domain_number t.domains.items;
  variables = vec_len t.taken;
  rows = t.rows.items;
  laws = laws_of t.laws;
}

-- what all tables keep to
pub record Kept (t : Inside) : Type 0 where
  -- each holds no more than its limit, and has room for that
  pub nodes_fit : Roomy t.domains most_nodes
  pub variables_fit : Roomy t.taken most_variables
  pub rows_fit : Roomy t.rows most_rows
  -- each row names drawn nodes, a branch two of one domain
  pub joined : list_all (joins (map domain_number t.domains.items)) t.rows.items ≡ true
  -- a variable's flag is up where a row has the variable
  pub marked : Marked t.taken.items t.rows.items
  -- each term names a drawn variable
  pub named : list_all (names (vec_len t.taken)) t.laws.terms.items ≡ true
