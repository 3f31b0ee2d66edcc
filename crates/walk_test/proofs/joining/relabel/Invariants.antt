use Rattle.std.proofs.Common.{◌+◌}
use Rattle.walk_test.proofs.Moving.{Moving}
use Rattle.walk_test.proofs.joining.relabel.Given as goal

abbrev pub invariant-loop-node : goal.invariant-loop-node
invariant-loop-node g l =
    Moving g.K.Quantity.group l.from l.to l.shift l.initial.labels l.initial.potentials (l.node + 1) l.labels l.potentials
