use Rattle.repeat.proofs.InCopies.{known, copies_proper}
use Rattle.repeat.proofs.RepeatAssembly.size.Goals as goal

pub returns : goal.returns
returns g c =
    let is = known c.args.self.now.times (g.A.Assembly.meaning c.args.self.now.part) c.in_ok-self.field-0 c.args.self.now.known (cc) in
    record { value = is.whole_has; proper = copies_proper c.args.self.now.times is }
