use Rattle.likeness.proofs.Agreeing.{alike_agree}
use Rattle.likeness.proofs.alike_agree.Goals as goal

pub returns : goal.returns
returns g c = alike_agree g.K.Quantity.group
