use Rattle.assembly_laws.proofs.Twice.{twice_is_series}
use Rattle.assembly_laws.proofs.twice_is_series.Goals as goal

pub returns : goal.returns
returns c = twice_is_series
