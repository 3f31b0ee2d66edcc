-- The listed equations of netlists that are alike.
use Rattle.std.specs.Prelude.{ℕ, ◌↔◌}
use Rattle.quantity.specs.Group.{Group}
use Rattle.likeness.specs.Alike.{Alike}
use Rattle.netlist.specs.Netlist.{Netlist}
use Rattle.netlist.specs.Sound.{Sound}
use Rattle.likeness.specs.Agreeing.{ReadAlike}
use Rattle.network.specs.Readings.{Readings}
use Rattle.readings.specs.Readings.{EquationsHold}

-- THEOREM: of two sound netlists that are alike, with readings that are read alike, potentials satisfy all equations
-- of both or of neither
abbrev pub EquationsTurn : {G : Type 0} → Group G → Type 0
EquationsTurn {G} 𝓖 =
    (b c : Netlist) → Sound b → Sound c → (s : Alike b c) (r r' : Readings G) → ReadAlike 𝓖 b s.there r r'
    → ((p : ℕ → G) × EquationsHold 𝓖 b r p) ↔ ((p : ℕ → G) × EquationsHold 𝓖 c r' p)
