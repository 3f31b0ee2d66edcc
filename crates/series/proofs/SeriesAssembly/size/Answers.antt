use Rattle.layers.proofs.Halving.{known, layer_proper}
use Rattle.series.specs.Series.{in_series, meet}
use Rattle.series.proofs.InSeries.{series_layout}
use Rattle.series.proofs.SeriesAssembly.size.Goals as goal

pub returns : goal.returns
returns g c =
    let m = g.A.Assembly.meaning c.args.self.now.first in
    let n = g.B.Assembly.meaning c.args.self.now.second in
    let is = known meet in_series m n c.in_ok-self.field-0 c.args.self.now.known (cc) in
    record { value = is.whole_has; proper = layer_proper series_layout is }
