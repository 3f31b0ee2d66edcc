use Rattle.small_readings.proofs.Exactness.{small_is_exact}
use Rattle.small_readings.proofs.all_small.Goals as goal

pub returns-clause-exact : goal.returns-clause-exact
returns-clause-exact c = small_is_exact
