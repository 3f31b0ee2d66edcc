-- What becomes of a part's nodes, variables, rows and laws in the layer that holds it.
use Rattle.std.specs.Prelude.{ℕ, List, ◌∷◌, map, slice_index_or}
use Rattle.std.specs.List.{range_with_len}
use Rattle.netlist.specs.Renaming.{Renaming, renamed_row, renamed_raw_term}
use Rattle.assembly.specs.Plans.{PlanRow, PlanTerm}
use Rattle.assembly.specs.Meaning.{Plan}
use Rattle.layers.specs.declared.renumbering.Renumbering.{Renumbering}

-- The number of what a part lacks: no layer has a node or a variable of this number.
abbrev pub absent : ℕ
absent = 10000

-- The layer's numbers of the part's nodes, in the part's order: the first end, the second, the inner nodes.
abbrev pub new_nodes : Renumbering → List ℕ
new_nodes p = p.first ∷ p.second ∷ range_with_len p.inner_from p.inner

-- The layer's numbers of the part's variables, in the part's order.
abbrev pub new_variables : Renumbering → List ℕ
new_variables p = range_with_len p.variables_from p.variables

abbrev pub moved_node : Renumbering → ℕ → ℕ
moved_node p n = slice_index_or (new_nodes p) n absent

abbrev pub moved_variable : Renumbering → ℕ → ℕ
moved_variable p v = slice_index_or (new_variables p) v absent

abbrev pub renaming_of : Renumbering → Renaming
renaming_of p = record { node = moved_node p; variable = moved_variable p }

abbrev pub moved_row : Renumbering → PlanRow → PlanRow
moved_row p row = renamed_row (renaming_of p) row

abbrev pub moved_term : Renumbering → PlanTerm → PlanTerm
moved_term p t = renamed_raw_term (renaming_of p) t

abbrev pub moved_rows : Renumbering → Plan → List PlanRow
moved_rows p a = map (moved_row p) a.rows

abbrev pub moved_laws : Renumbering → Plan → List (List PlanTerm)
moved_laws p a = map (map (moved_term p)) a.laws
