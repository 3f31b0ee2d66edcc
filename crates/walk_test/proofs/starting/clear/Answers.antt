use Rattle.std.proofs.Common.{length, arith}
use Rattle.walk_test.proofs.Filling.{filled}
use Rattle.walk_test.proofs.starting.clear.Goals as goal

pub returns : goal.returns
returns g c =
    filled c.loop-potential.potentials (length c.args.potentials.now) g.K.Quantity.group.zero c.loop-potential.auto.potentials (λ v l. c.loop-potential.invariant v (omega arith))
