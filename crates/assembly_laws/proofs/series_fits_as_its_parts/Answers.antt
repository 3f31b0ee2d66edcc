use Rattle.assembly_laws.proofs.OneByOne.{series_fits_as_its_parts}
use Rattle.assembly_laws.proofs.series_fits_as_its_parts.Goals as goal

pub returns : goal.returns
returns c = series_fits_as_its_parts
