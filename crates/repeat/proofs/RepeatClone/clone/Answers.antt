use Rattle.std.proofs.Common.{refl}
use Rattle.repeat.proofs.Once.{same_layer}
use Rattle.repeat.proofs.RepeatClone.clone.Goals as goal

pub returns : goal.returns
returns g c = record {
  cases = (c.in_ok-part.ensures.cases, refl, same_layer c.args.self.now.times g.A.Assembly.meaning (λ x r k. record { part = x; times = c.args.self.now.times; sizes = r; known = k }) _ c.args.self.now.known);
}
