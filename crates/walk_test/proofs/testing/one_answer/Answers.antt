use Rattle.walk_test.proofs.Answering.{one_answer}
use Rattle.walk_test.proofs.testing.one_answer.Goals as goal

pub returns : goal.returns
returns g c = one_answer g.K.Quantity.group
