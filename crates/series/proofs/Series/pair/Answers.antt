use Rattle.layers.proofs.Halving.{known, joined}
use Rattle.series.specs.Series.{in_series, meet}
use Rattle.series.proofs.InSeries.{series_layout}
use Rattle.series.proofs.Series.pair.Goals as goal

pub returns : goal.returns
returns g c =
    let m = g.A.Assembly.meaning c.args.self.now.first in
    let n = g.B.Assembly.meaning c.args.self.now.second in
    joined series_layout (known meet in_series m n c.in_ok-parts.parts c.args.self.now.known (cc)) (cc) (cc)
