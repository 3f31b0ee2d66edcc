use Rattle.likeness.proofs.Agreeing.{parts_agree}
use Rattle.likeness.proofs.parts_agree.Goals as goal

pub returns : goal.returns
returns g c = parts_agree g.K.Quantity.group
