-- What holds of a netlist whatever is read of it, and of each netlist of the same plant.
use Rattle.std.specs.Prelude.{◌≡◌, ℕ, ◌↔◌}
use Rattle.quantity.specs.Group.{Group}
use Rattle.netlist.specs.Netlist.{Netlist}
use Rattle.network.specs.Readings.{Readings}
use Rattle.network.specs.ReadingsAgree.{ReadingsAgree}
use Rattle.readings.specs.Readings.{EquationsHold}
use Rattle.likeness.specs.Alike.{Alike}
use Rattle.likeness.specs.Agreeing.{ReadAlike}
use Rattle.checking.specs.declared.verdicts.Verdict.{Verdict}
use Rattle.checking.specs.declared.verdicts.Verdict.TheVariants.{Holds}
use Rattle.checking.specs.Verdicts.{VerdictIs}

-- Some potentials of the nodes satisfy all equations exactly if every law holds, nothing flows out of any set of
-- nodes, and every closed walk adds up to zero, whatever is read.
abbrev pub PotentialsAgree : {G : Type 0} → Group G → Netlist → Type 0
PotentialsAgree {G} 𝓖 b = (r : Readings G) → ((p : ℕ → G) × EquationsHold 𝓖 b r p) ↔ ReadingsAgree 𝓖 b r

-- a netlist that says the same in another order and with other numbers, and readings of it that are read alike
pub record SamePlant {G : Type 0} (𝓖 : Group G) (b : Netlist) (r : Readings G) (c : Netlist)
    (s : Readings G) : Type 0 where
  pub alike : Alike b c
  pub read_alike : ReadAlike 𝓖 b alike.there r s

-- however the plant is drawn, its readings agree or do not, whatever is read
abbrev pub RedrawnAgrees : {G : Type 0} → Group G → Netlist → Type 0
RedrawnAgrees {G} 𝓖 b =
    (r : Readings G) (c : Netlist) (s : Readings G) → SamePlant 𝓖 b r c s
    → ReadingsAgree 𝓖 b r ↔ ReadingsAgree 𝓖 c s

-- what is said of the readings of two netlists is `Holds` for both or for neither
abbrev pub HoldAlike : Verdict → Verdict → Type 0
HoldAlike u v = (u ≡ Holds) ↔ (v ≡ Holds)

-- however the plant is drawn, the verdict is `Holds` exactly if u is, which is said of these readings
abbrev pub RedrawnHolds : {G : Type 0} → Group G → Netlist → Readings G → Verdict → Type 0
RedrawnHolds {G} 𝓖 b r u =
    (c : Netlist) (s : Readings G) → SamePlant 𝓖 b r c s → (v : Verdict) → VerdictIs 𝓖 c s v → HoldAlike u v
