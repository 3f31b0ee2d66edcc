use Rattle.network.proofs.Folding.{closing_has_potentials}
use Rattle.network.proofs.closing_has_potentials.Goals as goal

pub returns : goal.returns
returns g c = closing_has_potentials g.K.Quantity.group
