-- A flag for each variable, up where a row has the variable.
use Rattle.std.specs.Prelude.{◌≡◌, ℕ, Bool, true, false, List, slice_index_or, slice_set}
use Rattle.netlist.specs.declared.rows.Row.{Row}
use Rattle.netlist.specs.Rows.{bit, uses, flow_of, across_of}

abbrev pub flag_up : List Bool → ℕ → Bool
flag_up flags v = slice_index_or flags v false

-- A variable with its flag up is had by one row, once, and any other by none. So no variable is taken
-- twice, and none that is not drawn, since it has no flag.
abbrev pub Marked : List Bool → List (Row ℕ) → Type 0
Marked flags rows = (v : ℕ) → uses rows v ≡ bit (flag_up flags v)

-- the flags once the row is drawn
abbrev pub raised : List Bool → Row ℕ → List Bool
raised flags row = slice_set (slice_set flags (flow_of row) true) (across_of row) true
