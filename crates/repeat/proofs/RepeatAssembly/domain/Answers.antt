use Rattle.std.proofs.Common.{◌∙◌}
use Rattle.repeat.proofs.InCopies.{known, domain_end, domain_copied, domain_joint, domain_past}
use Rattle.repeat.proofs.RepeatAssembly.domain.Goals as goal

pub returns-then-node-lt2 : goal.returns-then-node-lt2
returns-then-node-lt2 g c =
    let is = known c.args.self.now.times (g.A.Assembly.meaning c.args.self.now.part) c.in_ok-copies.copies c.args.self.now.known (cc) in
    c.domain.ensures ∙ domain_end c.args.self.now.times is c.args.node c.if-node-lt2.true

pub returns-in-Some : goal.returns-in-Some
returns-in-Some g c =
    let is = known c.args.self.now.times (g.A.Assembly.meaning c.args.self.now.part) c.in_ok-copies.copies c.args.self.now.known (cc) in
    c.domain-in-Some.ensures
    ∙ domain_copied c.args.self.now.times is c.args.node c.if-node-lt2.false c.in-Some.s c.in-Some.ensures.at

pub returns-in-None : goal.returns-in-None
returns-in-None g c =
    let is = known c.args.self.now.times (g.A.Assembly.meaning c.args.self.now.part) c.in_ok-copies.copies c.args.self.now.known (cc) in
    c.domain-in-None.ensures
    ∙ domain_joint c.args.self.now.times is c.args.node c.if-node-lt2.false c.in-None.ensures c.if-node-copies.true

pub returns-in-None-2 : goal.returns-in-None-2
returns-in-None-2 g c =
    let is = known c.args.self.now.times (g.A.Assembly.meaning c.args.self.now.part) c.in_ok-copies.copies c.args.self.now.known (cc) in
    domain_past c.args.self.now.times is c.args.node c.if-node-lt2.false c.if-node-copies.false
