-- Readings of netlists that are alike.
use Rattle.std.specs.Prelude.{◌≡◌, List, length, ◌↔◌}
use Rattle.std.specs.List.{AllByRecursion}
use Rattle.quantity.specs.Group.{Group}
use Rattle.netlist.specs.Netlist.{Netlist}
use Rattle.likeness.specs.Alike.{Alike, variables_in}
use Rattle.netlist.specs.Renaming.{Renaming}
use Rattle.network.specs.Flows.{SetsKeep}
use Rattle.network.specs.Laws.{LawsHold}
use Rattle.network.specs.Walks.{read, network_of, WalksClose}
use Rattle.network.specs.Readings.{Readings}
use Rattle.network.specs.ReadingsAgree.{ReadingsAgree}
use Rattle.likeness.specs.Turning.{unchanged, onward}

-- each variable that occurs in b has, under its new number, the reading in `new` that it had in `old`
abbrev pub ListedAlike : {G : Type 0} → Group G → Netlist → Renaming → List G → List G → Type 0
ListedAlike 𝓖 b there old new = AllByRecursion (λ v. read 𝓖 new (there.variable v) ≡ read 𝓖 old v) (variables_in b)

-- so with the values, and with the rates
pub record ReadAlike {G : Type 0} (𝓖 : Group G) (b : Netlist) (there : Renaming) (r r' : Readings G) : Type 0 where
  pub values : ListedAlike 𝓖 b there r.values r'.values
  pub rates : ListedAlike 𝓖 b there r.rates r'.rates

-- THEOREM: readings agree with a netlist exactly if those that are read alike agree with a netlist that is alike
abbrev pub AlikeAgree : {G : Type 0} → Group G → Type 0
AlikeAgree {G} 𝓖 =
    (b c : Netlist) (s : Alike b c) (r r' : Readings G) → ReadAlike 𝓖 b s.there r r'
    → ReadingsAgree 𝓖 b r ↔ ReadingsAgree 𝓖 c r'

-- the laws hold on both or on neither, and so with the sets of nodes and with the closed walks
pub record PartsHoldAlike {G : Type 0} (𝓖 : Group G) (b c : Netlist) (r r' : Readings G) : Type 0 where
  pub laws : LawsHold 𝓖 b.laws r (length b.laws) ↔ LawsHold 𝓖 c.laws r' (length c.laws)
  pub sets : SetsKeep 𝓖 b.rows r.values ↔ SetsKeep 𝓖 c.rows r'.values
  pub walks :
      WalksClose 𝓖 (network_of 𝓖 b.rows r.values) (length b.rows)
      ↔ WalksClose 𝓖 (network_of 𝓖 c.rows r'.values) (length c.rows)

-- THEOREM: so it is with readings that are read alike
abbrev pub PartsAgree : {G : Type 0} → Group G → Type 0
PartsAgree {G} 𝓖 =
    (b c : Netlist) (s : Alike b c) (r r' : Readings G) → ReadAlike 𝓖 b s.there r r' → PartsHoldAlike 𝓖 b c r r'

-- THEOREM: under unchanged numbers the same readings are read alike
abbrev pub ReadItself : {G : Type 0} → Group G → Type 0
ReadItself {G} 𝓖 = (b : Netlist) (r : Readings G) → ReadAlike 𝓖 b unchanged r r

-- THEOREM: readings that are read alike are so the other way
abbrev pub ReadBack : {G : Type 0} → Group G → Type 0
ReadBack {G} 𝓖 =
    (b c : Netlist) (s : Alike b c) (r r' : Readings G) → ReadAlike 𝓖 b s.there r r' → ReadAlike 𝓖 c s.back r' r

-- THEOREM: and on from one netlist to a third
abbrev pub ReadOnward : {G : Type 0} → Group G → Type 0
ReadOnward {G} 𝓖 =
    (b c d : Netlist) (s : Alike b c) (t : Alike c d) (r r' r'' : Readings G)
    → ReadAlike 𝓖 b s.there r r' → ReadAlike 𝓖 c t.there r' r''
    → ReadAlike 𝓖 b (onward s.there t.there) r r''
