use Rattle.std.proofs.Common.{◌∙◌}
use Rattle.repeat.proofs.InCopies.{known, row_copied, row_past}
use Rattle.repeat.proofs.RepeatAssembly.row.Goals as goal

pub returns-in_err-s : goal.returns-in_err-s
returns-in_err-s g c =
    let is = known c.args.self.now.times (g.A.Assembly.meaning c.args.self.now.part) c.in_ok-copies.copies c.args.self.now.known (cc) in
    c.from_residual-in_err-s.ensures
    ∙ row_past c.args.self.now.times is c.args.k c.in_err-s.ensures

pub returns : goal.returns
returns g c =
    let is = known c.args.self.now.times (g.A.Assembly.meaning c.args.self.now.part) c.in_ok-copies.copies c.args.self.now.known (cc) in
    row_copied c.args.self.now.times is c.args.k c.in_ok-s.s c.in_ok-s.ensures.at
    c.in_ok-s.ensures.numbers_are c.row.ensures c.row-2.ensures
