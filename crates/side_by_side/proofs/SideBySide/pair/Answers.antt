use Rattle.layers.proofs.Halving.{known, joined}
use Rattle.side_by_side.specs.Beside.{in_parallel, meet}
use Rattle.side_by_side.proofs.InParallel.{parallel_layout}
use Rattle.side_by_side.proofs.SideBySide.pair.Goals as goal

pub returns : goal.returns
returns g c =
    let m = g.A.Assembly.meaning c.args.self.now.one in
    let n = g.B.Assembly.meaning c.args.self.now.other in
    joined parallel_layout (known meet in_parallel m n c.in_ok-parts.parts c.args.self.now.known (cc)) (cc) (cc)
