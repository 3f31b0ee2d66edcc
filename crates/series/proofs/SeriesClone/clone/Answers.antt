use Rattle.layers.proofs.Once.{same_layer}
use Rattle.series.specs.Series.{in_series, meet}
use Rattle.series.proofs.SeriesClone.clone.Goals as goal

pub returns : goal.returns
returns g c = record {
  cases = (c.in_ok-first.ensures.cases, c.in_ok-second.ensures.cases, same_layer meet in_series g.A.Assembly.meaning g.B.Assembly.meaning (λ x y r k. record { first = x; second = y; sizes = r; known = k }) _ c.args.self.now.known);
}
