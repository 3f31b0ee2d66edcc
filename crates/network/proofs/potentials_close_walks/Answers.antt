use Rattle.network.proofs.Walking.{potentials_close_walks}
use Rattle.network.proofs.potentials_close_walks.Goals as goal

pub returns : goal.returns
returns g c = potentials_close_walks g.K.Quantity.group
