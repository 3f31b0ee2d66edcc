-- What whole numbers say of small readings is what the integers say of the readings' values.
use Rattle.std.specs.Prelude.{◌≡◌, ℕ, ◌+◌, ◌≤◌, ◌↔◌, Bool, List, [], map, length, ℤ, slice_index_or}
use Rattle.quantity.specs.Integers.{integers}
use Rattle.quantity.specs.Wholes.{wholes}
use Rattle.quantity.specs.declared.numbers.Whole.{Whole}
use Rattle.netlist.specs.Netlist.{Netlist}
use Rattle.netlist.specs.Sound.{Sound}
use Rattle.network.specs.Readings.{Readings}
use Rattle.network.specs.ReadingsAgree.{ReadingsAgree}
use Rattle.network.specs.Flows.{net_flow, excess, FirstNode}
use Rattle.network.specs.Laws.{law_sum, LawHolds, FirstLaw}
use Rattle.network.specs.Walks.{Network, network_of, WalksClose, SomeWalkFails, Refuted, Solved}
use Rattle.small_readings.specs.Small.{AreSmall}

-- the values of readings, which are integers
abbrev pub values_of : List Whole → List ℤ
values_of readings = map (λ x. x.value) readings

abbrev pub integers_of : Readings Whole → Readings ℤ
integers_of r = record { values = values_of r.values; rates = values_of r.rates }

-- the rows with their across readings as whole numbers, and as integers
abbrev pub over_wholes : Netlist → List Whole → Network Whole
over_wholes b values = network_of wholes b.rows values

abbrev pub over_integers : Netlist → List Whole → Network ℤ
over_integers b values = network_of integers b.rows (values_of values)

-- Nothing is lost: what a law comes to and what flows out of a set of nodes have the value that they have over the
-- integers, and laws, nodes, closed walks and potentials are judged alike over both.
pub record Exact (b : Netlist) (r : Readings Whole) : Type 0 where
  pub law_sums : (k : ℕ) →
      (law_sum wholes (slice_index_or b.laws k []) r).value
      ≡ law_sum integers (slice_index_or b.laws k []) (integers_of r)
  pub laws : (k : ℕ) → LawHolds wholes b.laws r k ↔ LawHolds integers b.laws (integers_of r) k
  pub first_law : (k : ℕ) → FirstLaw wholes b.laws r k ↔ FirstLaw integers b.laws (integers_of r) k
  pub flows : (inside : ℕ → Bool) →
      (net_flow wholes b.rows r.values inside).value ≡ net_flow integers b.rows (values_of r.values) inside
  pub nodes : (n : ℕ) →
      (excess wholes b.rows r.values n ≡ wholes.zero) ↔ (excess integers b.rows (values_of r.values) n ≡ integers.zero)
  pub first_node : (m n : ℕ) →
      FirstNode wholes b.rows r.values m n ↔ FirstNode integers b.rows (values_of r.values) m n
  -- the rows below k, of the rows that there are
  pub walks_close : (k : ℕ) → k ≤ length b.rows →
      WalksClose wholes (over_wholes b r.values) k ↔ WalksClose integers (over_integers b r.values) k
  pub walk_fails : (k : ℕ) → k ≤ length b.rows →
      SomeWalkFails wholes (over_wholes b r.values) k ↔ SomeWalkFails integers (over_integers b r.values) k
  pub refuted : (k : ℕ) →
      Refuted wholes (over_wholes b r.values) (length b.rows) k
      ↔ Refuted integers (over_integers b r.values) (length b.rows) k
  -- the potentials of the earth and of each node
  pub solved : (k : ℕ) → k ≤ length b.rows → (p : ℕ → Whole) →
      Solved wholes (over_wholes b r.values) (length b.domains + 1) k p
      ↔ Solved integers (over_integers b r.values) (length b.domains + 1) k (λ v. (p v).value)
  pub readings_agree : ReadingsAgree wholes b r ↔ ReadingsAgree integers b (integers_of r)

-- THEOREM: so it is over a sound netlist with readings from -2^40 to 2^40
abbrev pub SmallIsExact : Type 0
SmallIsExact = (b : Netlist) → Sound b → (r : Readings Whole) → AreSmall r.values → AreSmall r.rates → Exact b r
