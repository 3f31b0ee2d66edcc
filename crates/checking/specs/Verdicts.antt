-- What each verdict says of readings.
use Rattle.std.specs.Prelude.{◌≡◌, length}
use Rattle.quantity.specs.Group.{Group}
use Rattle.netlist.specs.Netlist.{Netlist}
use Rattle.network.specs.ReadingsAgree.{ReadingsAgree}
use Rattle.network.specs.Flows.{NodesKeep, FirstNode}
use Rattle.network.specs.Laws.{LawsHold, FirstLaw}
use Rattle.network.specs.Readings.{Readings}
use Rattle.network.specs.Walks.{network_of, Refuted}
use Rattle.checking.specs.declared.verdicts.Verdict.{Verdict}
use Rattle.checking.specs.declared.verdicts.Verdict.TheVariants.{Holds, Law, Node, Row}

-- The readings agree with the netlist. Else law k is the lowest that fails. If none does, node n is the
-- lowest that has an excess. If none has, row k is the first with which some closed walk fails to come to zero.
abbrev pub VerdictIs : {G : Type 0} → Group G → Netlist → Readings G → Verdict → Type 0
VerdictIs 𝓖 b r Holds = ReadingsAgree 𝓖 b r
VerdictIs 𝓖 b r (Law k) = FirstLaw 𝓖 b.laws r k
VerdictIs 𝓖 b r (Node n) =
    LawsHold 𝓖 b.laws r (length b.laws) × FirstNode 𝓖 b.rows r.values (length b.domains) n
VerdictIs 𝓖 b r (Row k) =
    LawsHold 𝓖 b.laws r (length b.laws)
    × NodesKeep 𝓖 b.rows r.values (length b.domains)
    × Refuted 𝓖 (network_of 𝓖 b.rows r.values) (length b.rows) k

-- THEOREM: readings of a sheet have one verdict
abbrev pub OneVerdict : {G : Type 0} → Group G → Type 0
OneVerdict {G} 𝓖 =
    (b : Netlist) (r : Readings G) (u v : Verdict) → VerdictIs 𝓖 b r u → VerdictIs 𝓖 b r v → u ≡ v
