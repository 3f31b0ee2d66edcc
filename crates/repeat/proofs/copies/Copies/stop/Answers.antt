use Rattle.std.proofs.Common.{arith}
use Rattle.repeat.proofs.Stops.{joint_stop, last_stop}
use Rattle.repeat.proofs.copies.Copies.stop.Goals as goal

pub returns-then-i-self : goal.returns-then-i-self
returns-then-i-self c = joint_stop c.args.self.part c.args.self.times c.args.i c.if-i-eq0.false c.if-i-self.true

pub returns-else-i-self : goal.returns-else-i-self
returns-else-i-self c = last_stop c.args.self.part c.args.self.times c.args.i c.if-i-eq0.false (omega arith)
