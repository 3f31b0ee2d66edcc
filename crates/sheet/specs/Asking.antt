-- What is told of a node, a variable or a law that is there.
use Rattle.std.specs.Prelude.{◌≡◌, ℕ, ◌<◌, Bool, List, [], length, slice_index, slice_index_or}
use Rattle.netlist.specs.declared.domains.Domain.{Domain}
use Rattle.netlist.specs.declared.terms.Term.{Term}
use Rattle.netlist.specs.Domains.{domain_number}
use Rattle.netlist.specs.Netlist.{Netlist}
use Rattle.netlist.specs.Rows.{taken_by}

abbrev pub HasDomain : List ℕ → ℕ → Domain → Type 0
HasDomain domains node d = (node < length domains) × (slice_index domains node ≡ domain_number d)

-- whether a row has the variable
abbrev pub HasFlag : Netlist → ℕ → Bool → Type 0
HasFlag b v taken = (v < b.variables) × (taken_by b.rows v ≡ taken)

abbrev pub IsLaw : List (List Term) → ℕ → List Term → Type 0
IsLaw laws k law = (k < length laws) × (law ≡ slice_index_or laws k [])
