-- When readings agree with a netlist, told in its laws, sets of nodes and walks.
use Rattle.std.specs.Prelude.{length}
use Rattle.quantity.specs.Group.{Group}
use Rattle.netlist.specs.Netlist.{Netlist}
use Rattle.network.specs.Flows.{SetsKeep}
use Rattle.network.specs.Laws.{LawsHold}
use Rattle.network.specs.Readings.{Readings}
use Rattle.network.specs.Walks.{network_of, WalksClose}

-- every law holds, nothing flows out of any set of nodes, and every closed walk adds up to zero
pub record ReadingsAgree {G : Type 0} (𝓖 : Group G) (b : Netlist) (r : Readings G) : Type 0 where
  pub laws : LawsHold 𝓖 b.laws r (length b.laws)
  pub sets : SetsKeep 𝓖 b.rows r.values
  pub walks : WalksClose 𝓖 (network_of 𝓖 b.rows r.values) (length b.rows)
