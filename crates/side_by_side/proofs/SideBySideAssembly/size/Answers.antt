use Rattle.layers.proofs.Halving.{known, layer_proper}
use Rattle.side_by_side.specs.Beside.{in_parallel, meet}
use Rattle.side_by_side.proofs.InParallel.{parallel_layout}
use Rattle.side_by_side.proofs.SideBySideAssembly.size.Goals as goal

pub returns : goal.returns
returns g c =
    let m = g.A.Assembly.meaning c.args.self.now.one in
    let n = g.B.Assembly.meaning c.args.self.now.other in
    let is = known meet in_parallel m n c.in_ok-self.field-0 c.args.self.now.known (cc) in
    record { value = is.whole_has; proper = layer_proper parallel_layout is }
