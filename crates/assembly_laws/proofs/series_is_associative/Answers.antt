use Rattle.assembly_laws.proofs.EitherWay.{series_is_associative}
use Rattle.assembly_laws.proofs.series_is_associative.Goals as goal

pub returns : goal.returns
returns c = series_is_associative
