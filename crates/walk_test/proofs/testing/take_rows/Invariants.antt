use Rattle.walk_test.specs.Joining.{SettledBy}
use Rattle.walk_test.specs.Tested.{network_with}
use Rattle.walk_test.proofs.testing.take_rows.Given as goal

abbrev pub invariant-loop-k : goal.invariant-loop-k
invariant-loop-k g l =
    SettledBy g.K.Quantity.group (network_with l.rows (g.A.Across.reading l.across)) l.k l.labels l.potentials
