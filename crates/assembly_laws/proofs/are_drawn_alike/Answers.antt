use Rattle.assembly_laws.proofs.PlacedAlike.{are_drawn_alike}
use Rattle.assembly_laws.proofs.are_drawn_alike.Goals as goal

pub returns : goal.returns
returns c = are_drawn_alike
