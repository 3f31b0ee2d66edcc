use Rattle.assembly_laws.proofs.More.{one_copy_more}
use Rattle.assembly_laws.proofs.one_copy_more.Goals as goal

pub returns : goal.returns
returns c = one_copy_more
