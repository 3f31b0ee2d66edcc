use Rattle.std.proofs.Common.{◌∙◌}
use Rattle.repeat.proofs.InCopies.{known, term_copied, term_past}
use Rattle.repeat.proofs.RepeatAssembly.term.Goals as goal

pub returns-in_err-s : goal.returns-in_err-s
returns-in_err-s g c =
    let is = known c.args.self.now.times (g.A.Assembly.meaning c.args.self.now.part) c.in_ok-copies.copies c.args.self.now.known (cc) in
    c.from_residual-in_err-s.ensures
    ∙ term_past c.args.self.now.times is c.args.k c.args.t c.in_err-s.ensures

pub returns : goal.returns
returns g c =
    let is = known c.args.self.now.times (g.A.Assembly.meaning c.args.self.now.part) c.in_ok-copies.copies c.args.self.now.known (cc) in
    term_copied c.args.self.now.times is c.args.k c.in_ok-s.s c.args.t c.in_ok-s.ensures.at
    c.in_ok-s.ensures.numbers_are c.term.ensures c.term-2.ensures
