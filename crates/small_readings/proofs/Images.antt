-- Laws, flows and walks over whole numbers come to the whole numbers of what they come to over the integers.
use Rattle.std.proofs.Common.{◌≡◌, ℕ, zero, suc, Bool, true, false, cond, List, [], ◌∷◌, ℤ, sym, refl, ap, ◌∙◌, ap₂}
use Rattle.quantity.specs.Integers.{integers}
use Rattle.quantity.specs.Wholes.{whole, whole_wrapping, wholes}
use Rattle.quantity.specs.declared.numbers.Whole.{Whole}
use Rattle.quantity.proofs.Images.{whole_respects}
use Rattle.netlist.specs.Netlist.{Netlist}
use Rattle.netlist.specs.Rows.{flow_of, across_of}
use Rattle.netlist.specs.declared.rows.Row.{Row}
use Rattle.netlist.specs.declared.rows.Row.TheVariants.{Branch, Earth}
use Rattle.netlist.specs.declared.terms.Order.{Order}
use Rattle.netlist.specs.declared.terms.Order.TheVariants.{Value, Rate}
use Rattle.netlist.specs.declared.terms.Term.{Term}
use Rattle.network.specs.Flows.{crossing, leaves, net_flow}
use Rattle.network.specs.Laws.{of_order, law_sum}
use Rattle.network.specs.Readings.{Readings}
use Rattle.network.specs.Walks.{Network, Step, forward, backward, Walk, read, row_at, walk_sum}
use Rattle.small_readings.specs.Exact.{values_of, integers_of, over_wholes, over_integers}

pub read_is : (xs : List Whole) (v : ℕ) → read wholes xs v ≡ whole (read integers (values_of xs) v)
read_is [] v = refl
read_is (x ∷ xs) zero = sym (whole_wrapping.of_value x)
read_is (x ∷ xs) (suc v) = read_is xs v

order_is : (o : Order) (r : Readings Whole) (v : ℕ) → read wholes (of_order o r) v ≡ whole (read integers (of_order o (integers_of r)) v)
order_is Value r v = read_is r.values v
order_is Rate r v = read_is r.rates v

pub law_is : (ts : List Term) (r : Readings Whole) → law_sum wholes ts r ≡ whole (law_sum integers ts (integers_of r))
law_is [] r = refl
law_is (t ∷ ts) r =
    ap₂ wholes.sum (ap (wholes.multiple t.coefficient) (order_is t.order r t.variable) ∙ sym (whole_respects.multiple t.coefficient _)) (law_is ts r)
    ∙ sym (whole_respects.sum _ _)

crossing_is : (a b : Bool) (z : ℤ) → crossing wholes a b (whole z) ≡ whole (crossing integers a b z)
crossing_is true true z = refl
crossing_is true false z = refl
crossing_is false true z = sym (whole_respects.negation z)
crossing_is false false z = refl

leaves_is : (inside : ℕ → Bool) (row : Row ℕ) (z : ℤ) → leaves wholes inside row (whole z) ≡ whole (leaves integers inside row z)
leaves_is inside (Branch flow across first second) z = crossing_is (inside first) (inside second) z
leaves_is inside (Earth flow across node) z = elim (inside node) as (λ b. cond b (whole z) wholes.zero ≡ whole (cond b z integers.zero)) [ true ↦ refl | false ↦ refl ]

pub flow_is : (rows : List (Row ℕ)) (values : List Whole) (inside : ℕ → Bool) → net_flow wholes rows values inside ≡ whole (net_flow integers rows (values_of values) inside)
flow_is [] values inside = refl
flow_is (row ∷ rows) values inside =
    ap₂ wholes.sum (ap (leaves wholes inside row) (read_is values (flow_of row)) ∙ leaves_is inside row _) (flow_is rows values inside)
    ∙ sym (whole_respects.sum _ _)

module _ (b : Netlist) (values : List Whole) where
  pub reading_is : (j : ℕ) → (over_wholes b values).reading j ≡ whole ((over_integers b values).reading j)
  reading_is j = read_is values (across_of (row_at b.rows j))

  pub walk_is : (s : List Step) → walk_sum wholes (over_wholes b values) s ≡ whole (walk_sum integers (over_integers b values) s)
  walk_is [] = refl
  walk_is (forward j ∷ s) = ap₂ wholes.sum (reading_is j) (walk_is s) ∙ sym (whole_respects.sum _ _)
  walk_is (backward j ∷ s) =
      ap₂ wholes.sum (ap wholes.negation (reading_is j) ∙ sym (whole_respects.negation ((over_integers b values).reading j))) (walk_is s)
      ∙ sym (whole_respects.sum _ _)

-- a walk goes by rows and their ends, whatever the readings
pub walk_over : {G H : Type 0} (R : Network G) (reading : ℕ → H) (k a b : ℕ) (s : List Step) → Walk R k a s b → Walk (record { tail = R.tail; head = R.head; reading = reading }) k a s b
walk_over R reading k a b [] w = w
walk_over R reading k a b (forward j ∷ s) w = (w.0, w.1, walk_over R reading k (R.head j) b s w.2)
walk_over R reading k a b (backward j ∷ s) w = (w.0, w.1, walk_over R reading k (R.tail j) b s w.2)
