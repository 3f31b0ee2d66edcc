use Rattle.layers.proofs.Once.{same_layer}
use Rattle.side_by_side.specs.Beside.{in_parallel, meet}
use Rattle.side_by_side.proofs.SideBySideClone.clone.Goals as goal

pub returns : goal.returns
returns g c = record {
  cases = (c.in_ok-one.ensures.cases, c.in_ok-other.ensures.cases, same_layer meet in_parallel g.A.Assembly.meaning g.B.Assembly.meaning (λ x y r k. record { one = x; other = y; sizes = r; known = k }) _ c.args.self.now.known);
}
