use Rattle.assembly_laws.proofs.OneByOne.{series_is_drawn_as_its_parts}
use Rattle.assembly_laws.proofs.series_is_drawn_as_its_parts.Goals as goal

pub returns : goal.returns
returns c = series_is_drawn_as_its_parts
