-- Readings have one verdict.
use Rattle.std.proofs.Common.{◌≡◌, ℕ, List, length, refl, ap}
use Rattle.quantity.specs.Group.{Group}
use Rattle.netlist.specs.declared.rows.Row.{Row}
use Rattle.netlist.specs.declared.terms.Term.{Term}
use Rattle.network.specs.Flows.{only, FirstNode}
use Rattle.network.specs.Laws.{FirstLaw}
use Rattle.network.specs.Readings.{Readings}
use Rattle.network.proofs.First.{one_first}
use Rattle.network.proofs.Refuting.{one_refuted, closed_not_refuted}
use Rattle.checking.specs.Verdicts.{OneVerdict}
use Rattle.checking.specs.declared.verdicts.Verdict.TheVariants.{Holds, Law, Node, Row as RowFails}

module _ {G : Type 0} (𝓖 : Group G) where
  same_law : (laws : List (List Term)) (r : Readings G) (j k : ℕ) → FirstLaw 𝓖 laws r j → FirstLaw 𝓖 laws r k → j ≡ k
  same_law laws r = one_first _ _ (λ j holds fails. fails holds) (length laws)

  same_node : (rows : List (Row ℕ)) (values : List G) (m j k : ℕ) → FirstNode 𝓖 rows values m j → FirstNode 𝓖 rows values m k → j ≡ k
  same_node rows values = one_first _ _ (λ u keeps fails. fails keeps)

  pub one_verdict : OneVerdict 𝓖
  one_verdict b r Holds Holds p q = refl
  one_verdict b r Holds (Law k) p q = absurd (q.here (p.laws k q.within))
  one_verdict b r Holds (Node n) p q = absurd (q.1.here (p.sets (only n)))
  one_verdict b r Holds (RowFails k) p q = absurd (closed_not_refuted 𝓖 _ _ k p.walks q.2)
  one_verdict b r (Law k) Holds p q = absurd (p.here (q.laws k p.within))
  one_verdict b r (Law j) (Law k) p q = ap (λ i. Law i) (same_law b.laws r j k p q)
  one_verdict b r (Law k) (Node n) p q = absurd (p.here (q.0 k p.within))
  one_verdict b r (Law k) (RowFails j) p q = absurd (p.here (q.0 k p.within))
  one_verdict b r (Node n) Holds p q = absurd (p.1.here (q.sets (only n)))
  one_verdict b r (Node n) (Law k) p q = absurd (q.here (p.0 k q.within))
  one_verdict b r (Node j) (Node k) p q = ap (λ i. Node i) (same_node b.rows r.values _ j k p.1 q.1)
  one_verdict b r (Node n) (RowFails k) p q = absurd (p.1.here (q.1 n p.1.within))
  one_verdict b r (RowFails k) Holds p q = absurd (closed_not_refuted 𝓖 _ _ k q.walks p.2)
  one_verdict b r (RowFails j) (Law k) p q = absurd (q.here (p.0 k q.within))
  one_verdict b r (RowFails k) (Node n) p q = absurd (q.1.here (p.1 n q.1.within))
  one_verdict b r (RowFails j) (RowFails k) p q = ap (λ i. RowFails i) (one_refuted 𝓖 _ _ j k p.2 q.2)
