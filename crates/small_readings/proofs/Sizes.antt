-- How far from zero laws, flows and walks over small integers can come.
use Rattle.std.proofs.Common.{ℤ, pos, ◌≡◌, ℕ, ◌+◌, ◌*◌, ◌≤◌, ◌+ℤ◌, ◌*ℤ◌, neg_ℤ, Bool, true, false, cond, List, [], ◌∷◌, length, arith}
use Rattle.std.specs.Int.RustNames.{unsigned_abs}
use Rattle.std.proofs.lemmas.Int.{ints, unsigned_abs-mul}
use Rattle.std.proofs.lemmas.Bool.{and_parts}
use Rattle.std.proofs.lemmas.Bool.Decides.{nat_tests}
use Rattle.std.proofs.Math.Nat.{mul-le-mul}
use Rattle.quantity.specs.Integers.{integers}
use Rattle.netlist.specs.Rows.{flow_of}
use Rattle.netlist.specs.Sound.{is_sized}
use Rattle.std.specs.List.{list_all}
use Rattle.netlist.specs.declared.rows.Row.{Row}
use Rattle.netlist.specs.declared.rows.Row.TheVariants.{Branch, Earth}
use Rattle.netlist.specs.declared.terms.Order.{Order}
use Rattle.netlist.specs.declared.terms.Order.TheVariants.{Value, Rate}
use Rattle.netlist.specs.declared.terms.Term.{Term}
use Rattle.network.specs.Flows.{crossing, leaves, net_flow}
use Rattle.network.specs.Laws.{of_order, law_sum}
use Rattle.network.specs.Readings.{Readings}
use Rattle.network.specs.Walks.{Network, Step, forward, backward, read, walk_sum}

abs_sum : (a b : ℤ) → unsigned_abs (a +ℤ b) ≤ unsigned_abs a + unsigned_abs b
abs_sum a b = omega (arith, ints)

abs_negation : (z : ℤ) → unsigned_abs (neg_ℤ z) ≡ unsigned_abs z
abs_negation z = omega (arith, ints)

sized : (t : Term) → is_sized t ≡ true → unsigned_abs t.coefficient ≤ 1000000
sized t h = grind (arith, nat_tests)

crossing_size : (a b : Bool) (z : ℤ) → unsigned_abs (crossing integers a b z) ≤ unsigned_abs z
crossing_size true true z = omega arith
crossing_size true false z = omega arith
crossing_size false true z = omega (arith, abs_negation z)
crossing_size false false z = omega arith

leaves_size : (inside : ℕ → Bool) (row : Row ℕ) (z : ℤ) → unsigned_abs (leaves integers inside row z) ≤ unsigned_abs z
leaves_size inside (Branch flow across first second) z = crossing_size (inside first) (inside second) z
leaves_size inside (Earth flow across node) z = elim (inside node) as (λ b. unsigned_abs (cond b z (pos 0)) ≤ unsigned_abs z) [ true ↦ omega arith | false ↦ omega arith ]

module _ (most : ℕ) where
  -- none is further from zero than `most`
  abbrev pub Low : List ℤ → Type 0
  Low readings = (v : ℕ) → unsigned_abs (read integers readings v) ≤ most

  order_size : (o : Order) (r : Readings ℤ) → Low r.values → Low r.rates → Low (of_order o r)
  order_size Value r low_values low_rates = low_values
  order_size Rate r low_values low_rates = low_rates

  pub law_size : (ts : List Term) (r : Readings ℤ) → list_all is_sized ts ≡ true → Low r.values → Low r.rates → unsigned_abs (law_sum integers ts r) ≤ length ts * (1000000 * most)
  law_size [] r few low_values low_rates = omega arith
  law_size (t ∷ ts) r few low_values low_rates =
      let both = and_parts (is_sized t) (list_all is_sized ts) few in
      let x = read integers (of_order t.order r) t.variable in
      omega (
        arith,
        abs_sum (t.coefficient *ℤ x) (law_sum integers ts r),
        unsigned_abs-mul t.coefficient x,
        mul-le-mul (sized t both.0) (order_size t.order r low_values low_rates t.variable),
        law_size ts r both.1 low_values low_rates,
      )

  pub flow_size : (rows : List (Row ℕ)) (values : List ℤ) (inside : ℕ → Bool) → Low values → unsigned_abs (net_flow integers rows values inside) ≤ length rows * most
  flow_size [] values inside low = omega arith
  flow_size (row ∷ rows) values inside low =
      let x = read integers values (flow_of row) in
      omega (
        arith,
        abs_sum (leaves integers inside row x) (net_flow integers rows values inside),
        leaves_size inside row x,
        low (flow_of row),
        flow_size rows values inside low,
      )

  pub walk_size : (R : Network ℤ) → ((j : ℕ) → unsigned_abs (R.reading j) ≤ most) → (s : List Step) → unsigned_abs (walk_sum integers R s) ≤ length s * most
  walk_size R low [] = omega arith
  walk_size R low (forward j ∷ s) = omega (arith, abs_sum (R.reading j) (walk_sum integers R s), low j, walk_size R low s)
  walk_size R low (backward j ∷ s) = omega (arith, abs_sum (neg_ℤ (R.reading j)) (walk_sum integers R s), abs_negation (R.reading j), low j, walk_size R low s)
