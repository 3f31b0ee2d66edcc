use Rattle.readings.proofs.Turning.{equations_turn}
use Rattle.readings.proofs.equations_turn.Goals as goal

pub returns : goal.returns
returns g c = equations_turn g.K.Quantity.group
