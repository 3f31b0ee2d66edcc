-- The potentials that go with a verdict.
use Rattle.std.specs.Prelude.{◌≡◌, ℕ, ◌+◌, ◌<◌, List, length, replicate}
use Rattle.quantity.specs.Group.{Group}
use Rattle.netlist.specs.Netlist.{Netlist}
use Rattle.network.specs.Readings.{Readings}
use Rattle.network.specs.Walks.{network_of, read, Lowest}
use Rattle.readings.specs.Readings.{EquationsHold}
use Rattle.checking.specs.declared.verdicts.Verdict.{Verdict}
use Rattle.checking.specs.declared.verdicts.Verdict.TheVariants.{Holds, Law, Node, Row}

-- a node from which no walk comes to the earth or to a lower node is at zero
abbrev pub GroundedNodes : {G : Type 0} → Group G → Netlist → List G → (ℕ → G) → Type 0
GroundedNodes 𝓖 b values p =
    (n : ℕ) → n < length b.domains → Lowest (network_of 𝓖 b.rows values) (length b.rows) (n + 1) → p n ≡ 𝓖.zero

-- The potentials satisfy all listed equations, the earth's being zero, with zero at the lowest node of each
-- part without an earth; and no others do.
pub record Filling {G : Type 0} (𝓖 : Group G) (b : Netlist) (r : Readings G) (ps : List G) : Type 0 where
  pub fits : EquationsHold 𝓖 b r (read 𝓖 ps)
  pub grounded : GroundedNodes 𝓖 b r.values (read 𝓖 ps)
  pub only : (q : ℕ → G) → EquationsHold 𝓖 b r q → GroundedNodes 𝓖 b r.values q →
      (n : ℕ) → n < length b.domains → q n ≡ read 𝓖 ps n

-- where readings do not agree, every potential is zero
abbrev pub Filled : {G : Type 0} → Group G → Netlist → Readings G → List G → Verdict → Type 0
Filled 𝓖 b r ps Holds = Filling 𝓖 b r ps
Filled 𝓖 b r ps (Law k) = ps ≡ replicate (length ps) 𝓖.zero
Filled 𝓖 b r ps (Node n) = ps ≡ replicate (length ps) 𝓖.zero
Filled 𝓖 b r ps (Row k) = ps ≡ replicate (length ps) 𝓖.zero
