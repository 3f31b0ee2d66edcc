use Rattle.std.proofs.Common.{sym}
use Rattle.layers.proofs.Halving.{halved}
use Rattle.side_by_side.specs.Beside.{meet}
use Rattle.side_by_side.proofs.InParallel.{parallel_layout}
use Rattle.side_by_side.proofs.halves.Goals as goal

pub returns : goal.returns
returns g c =
    halved parallel_layout meet (g.A.Assembly.meaning c.args.one.now) (g.B.Assembly.meaning c.args.other.now) _
    c.in_ok-first.ensures.value c.in_ok-second.ensures.value
    c.in_ok-first.ensures.proper c.in_ok-second.ensures.proper
    (sym c.if-not-ends_meet.ensures) c.new.ensures
