-- What the listed equations of a netlist say of its laws, nodes and rows, and when potentials satisfy all
-- of them.
use Rattle.std.specs.Prelude.{◌≡◌, ℕ, zero, suc, ◌+◌, ◌<◌, ◌↔◌, List, [], length, slice_index_or}
use Rattle.quantity.specs.Group.{Group, minus}
use Rattle.netlist.specs.Netlist.{Netlist}
use Rattle.netlist.specs.Rows.{across_of}
use Rattle.netlist.specs.Sound.{Sound}
use Rattle.network.specs.Walks.{read, row_at, tail_of, head_of}
use Rattle.network.specs.Laws.{law_sum}
use Rattle.network.specs.Flows.{excess}
use Rattle.network.specs.Readings.{Readings}
use Rattle.network.specs.ReadingsAgree.{ReadingsAgree}
use Rattle.readings.specs.Readings.{comes_to, EquationsHold}

-- the potentials of the earth point, which is zero, and of the nodes behind it
abbrev pub with_earth : {G : Type 0} → Group G → (ℕ → G) → ℕ → G
with_earth 𝓖 p zero = 𝓖.zero
with_earth 𝓖 p (suc u) = p u

-- the potential where row j begins less that where it ends
abbrev pub difference_over : {G : Type 0} → Group G → Netlist → (ℕ → G) → ℕ → G
difference_over 𝓖 b p j =
    minus 𝓖 (with_earth 𝓖 p (tail_of (row_at b.rows j))) (with_earth 𝓖 p (head_of (row_at b.rows j)))

-- the across reading of row j
abbrev pub across_reading : {G : Type 0} → Group G → Netlist → List G → ℕ → G
across_reading 𝓖 b values j = read 𝓖 values (across_of (row_at b.rows j))

-- the listed equations, part by part: the laws, then the sums at the nodes, then the equations of the rows
pub record EquationParts {G : Type 0} (𝓖 : Group G) (b : Netlist) (r : Readings G) (p : ℕ → G) : Type 0 where
  -- that of law k comes to what the law does
  pub law : (k : ℕ) → k < length b.laws → comes_to 𝓖 b r p k ≡ law_sum 𝓖 (slice_index_or b.laws k []) r
  -- that of node u to its excess
  pub node : (u : ℕ) → u < length b.domains → comes_to 𝓖 b r p (length b.laws + u) ≡ excess 𝓖 b.rows r.values u
  -- that of row j to what its across reading has over the difference of potentials
  pub row : (j : ℕ) → j < length b.rows →
      comes_to 𝓖 b r p (length b.laws + (length b.domains + j))
      ≡ minus 𝓖 (across_reading 𝓖 b r.values j) (difference_over 𝓖 b p j)
  -- and so to zero exactly if the two are equal
  pub row_holds : (j : ℕ) → j < length b.rows →
      (comes_to 𝓖 b r p (length b.laws + (length b.domains + j)) ≡ 𝓖.zero)
      ↔ (across_reading 𝓖 b r.values j ≡ difference_over 𝓖 b p j)

-- THEOREM: of every sound netlist each listed equation comes to what its part says
abbrev pub EquationsByPart : {G : Type 0} → Group G → Type 0
EquationsByPart {G} 𝓖 =
    (b : Netlist) → Sound b → (r : Readings G) (p : ℕ → G) → EquationParts 𝓖 b r p

-- THEOREM: some potentials satisfy all listed equations of a sound netlist exactly if every law holds, nothing flows
-- out of any set of nodes, and every closed walk adds up to zero
abbrev pub EquationsAgree : {G : Type 0} → Group G → Type 0
EquationsAgree {G} 𝓖 =
    (b : Netlist) → Sound b → (r : Readings G) → ((p : ℕ → G) × EquationsHold 𝓖 b r p) ↔ ReadingsAgree 𝓖 b r
