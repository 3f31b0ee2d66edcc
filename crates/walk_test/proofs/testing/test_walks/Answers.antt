use Rattle.std.proofs.Common.{sym}
use Rattle.walk_test.proofs.Fitting.{fit_drawn}
use Rattle.walk_test.proofs.testing.test_walks.Goals as goal

pub take_rows-requires-clause-drawn : goal.take_rows-requires-clause-drawn
take_rows-requires-clause-drawn g c = fit_drawn _ _ (sym c.in_ok-judge.ensures)
