-- Laws and flows over whole numbers have the value that they have over the integers.
use Rattle.std.proofs.Common.{◌≡◌, ◌↔◌, ℕ, ◌*◌, ◌^◌, ◌<◌, Bool, List, [], length, get_or, ℤ, pos, sym, ap, ◌∙◌, arith}
use Rattle.std.specs.Int.RustNames.{unsigned_abs}
use Rattle.std.proofs.Math.Nat.{mul-le-mul_right}
use Rattle.quantity.specs.Integers.{integers}
use Rattle.quantity.specs.Wholes.{whole, wholes}
use Rattle.quantity.specs.declared.numbers.Whole.{Whole}
use Rattle.netlist.specs.Netlist.{Netlist}
use Rattle.netlist.specs.Sound.{Sound}
use Rattle.netlist.specs.declared.terms.Term.{Term}
use Rattle.network.specs.Flows.{net_flow, FirstNode, only}
use Rattle.network.specs.Laws.{law_sum, LawHolds, FirstLaw}
use Rattle.network.specs.Readings.{Readings}
use Rattle.network.proofs.First.{first_alike}
use Rattle.small_readings.specs.Small.{AreSmall}
use Rattle.small_readings.specs.Exact.{values_of, integers_of}
use Rattle.small_readings.proofs.Bounds.{held_as_is, zero_value, read_small, law_few, law_sized}
use Rattle.small_readings.proofs.Images.{law_is, flow_is}
use Rattle.small_readings.proofs.Sizes.{law_size, flow_size}

-- a whole number with the value of an integer is zero exactly if that is
zeros : (x : Whole) (z : ℤ) → x ≡ whole z → x.value ≡ z → (x ≡ wholes.zero) ↔ (z ≡ pos 0)
zeros x z held value = (λ e. sym value ∙ ap (λ (y : Whole). y.value) e ∙ zero_value, λ e. held ∙ ap whole e)

not_alike : {P Q : Type 0} → P ↔ Q → (P → ⊥) ↔ (Q → ⊥)
not_alike same = (λ no q. no (same.1 q), λ no p. no (same.0 p))

module _ (b : Netlist) (sound : Sound b) (r : Readings Whole) (small_values : AreSmall r.values) (small_rates : AreSmall r.rates) where
  module _ (k : ℕ) where
    abbrev law : List Term
    law = get_or b.laws k []

    abbrev law_exact : ℤ
    law_exact = law_sum integers law (integers_of r)

    law_near : unsigned_abs law_exact < 2 ^ 63
    law_near =
        omega (
          arith,
          law_size (2 ^ 40) law (integers_of r) (law_sized b sound k) (read_small r.values small_values) (read_small r.rates small_rates),
          mul-le-mul_right (1000000 * 2 ^ 40) (law_few b sound k),
        )

    pub law_value : (law_sum wholes law r).value ≡ law_exact
    law_value = ap (λ (x : Whole). x.value) (law_is law r) ∙ held_as_is law_exact law_near

    pub law_alike : LawHolds wholes b.laws r k ↔ LawHolds integers b.laws (integers_of r) k
    law_alike = zeros (law_sum wholes law r) law_exact (law_is law r) law_value

  pub first_law_alike : (k : ℕ) → FirstLaw wholes b.laws r k ↔ FirstLaw integers b.laws (integers_of r) k
  first_law_alike =
      first_alike _ _ _ _ (length b.laws) (λ j _. law_alike j) (λ j _. not_alike (law_alike j))

  module _ (inside : ℕ → Bool) where
    abbrev flow_exact : ℤ
    flow_exact = net_flow integers b.rows (values_of r.values) inside

    flow_near : unsigned_abs flow_exact < 2 ^ 63
    flow_near =
        let rows = sound.within.rows in
        omega (arith, flow_size (2 ^ 40) b.rows (values_of r.values) inside (read_small r.values small_values), mul-le-mul_right (2 ^ 40) rows)

    pub flow_value : (net_flow wholes b.rows r.values inside).value ≡ flow_exact
    flow_value = ap (λ (x : Whole). x.value) (flow_is b.rows r.values inside) ∙ held_as_is flow_exact flow_near

    pub flow_alike : (net_flow wholes b.rows r.values inside ≡ wholes.zero) ↔ (flow_exact ≡ pos 0)
    flow_alike = zeros (net_flow wholes b.rows r.values inside) flow_exact (flow_is b.rows r.values inside) flow_value

  pub first_node_alike : (m n : ℕ) → FirstNode wholes b.rows r.values m n ↔ FirstNode integers b.rows (values_of r.values) m n
  first_node_alike m =
      first_alike _ _ _ _ m (λ u _. flow_alike (only u)) (λ u _. not_alike (flow_alike (only u)))
