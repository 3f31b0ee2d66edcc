-- What a row names.
use Rattle.std.specs.Prelude.{ℕ, ◌+◌, Bool, cond, ◌&&◌, List, [], ◌∷◌, ◌==◌, nat_lt}
use Rattle.netlist.specs.declared.rows.Row.{Row}
use Rattle.netlist.specs.declared.rows.Row.TheVariants.{Branch, Earth}

abbrev pub flow_of : {N : Type 0} → Row N → N
flow_of (Branch flow across first second) = flow
flow_of (Earth flow across node) = flow

abbrev pub across_of : {N : Type 0} → Row N → N
across_of (Branch flow across first second) = across
across_of (Earth flow across node) = across

abbrev pub bit : Bool → ℕ
bit b = cond b 1 0

-- how often a row has the variable v, as its flow or as its across
abbrev pub hits : Row ℕ → ℕ → ℕ
hits row v = bit (flow_of row == v) + bit (across_of row == v)

-- how often the rows have it
abbrev pub uses : List (Row ℕ) → ℕ → ℕ
uses [] v = 0
uses (row ∷ rows) v = hits row v + uses rows v

-- some row has the variable
abbrev pub taken_by : List (Row ℕ) → ℕ → Bool
taken_by rows v = nat_lt 0 (uses rows v)

-- the row names none but the first n nodes
abbrev pub stands_on : ℕ → Row ℕ → Bool
stands_on n (Branch flow across first second) = nat_lt first n && nat_lt second n
stands_on n (Earth flow across node) = nat_lt node n
