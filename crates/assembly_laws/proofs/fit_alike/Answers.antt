use Rattle.assembly_laws.proofs.PlacedAlike.{fit_alike}
use Rattle.assembly_laws.proofs.fit_alike.Goals as goal

pub returns : goal.returns
returns c = fit_alike
