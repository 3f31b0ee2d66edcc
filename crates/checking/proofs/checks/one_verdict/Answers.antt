use Rattle.checking.proofs.Deciding.{one_verdict}
use Rattle.checking.proofs.checks.one_verdict.Goals as goal

pub returns : goal.returns
returns g c = one_verdict g.K.Quantity.group
