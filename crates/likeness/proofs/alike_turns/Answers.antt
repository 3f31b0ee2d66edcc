use Rattle.likeness.proofs.Turning.{alike_itself, alike_back, alike_onward}
use Rattle.likeness.proofs.alike_turns.Goals as goal

pub returns-clause-itself : goal.returns-clause-itself
returns-clause-itself c = alike_itself

pub returns-clause-back : goal.returns-clause-back
returns-clause-back c = alike_back

pub returns-clause-onward : goal.returns-clause-onward
returns-clause-onward c = alike_onward
