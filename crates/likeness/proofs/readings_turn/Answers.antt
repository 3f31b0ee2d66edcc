use Rattle.likeness.proofs.Turning.{read_itself, read_back, read_onward}
use Rattle.likeness.proofs.readings_turn.Goals as goal

pub returns-clause-itself : goal.returns-clause-itself
returns-clause-itself g c = read_itself g.K.Quantity.group

pub returns-clause-back : goal.returns-clause-back
returns-clause-back g c = read_back g.K.Quantity.group

pub returns-clause-onward : goal.returns-clause-onward
returns-clause-onward g c = read_onward g.K.Quantity.group
