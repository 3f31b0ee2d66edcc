-- Where a plan's things go.
use Rattle.std.specs.Prelude.{◌≡◌, ℕ, List, [], ◌∷◌, length}
use Rattle.netlist.specs.declared.rows.Row.{Row}
use Rattle.netlist.specs.Netlist.{Netlist}
use Rattle.place.specs.declared.seats.Seat.{Seat}
use Rattle.place.specs.Moved.{moved_row}

-- the nodes given for the ends
abbrev pub given : Seat → List ℕ
given s = s.first ∷ s.second ∷ []

abbrev pub seated_row : Seat → Row ℕ → Row ℕ
seated_row s row = moved_row s.nodes s.variables (given s) row

-- it is behind all that the netlist has
pub record Behind (b : Netlist) (s : Seat) : Type 0 where
  pub nodes : s.nodes ≡ length b.domains
  pub variables : s.variables ≡ b.variables
