use Rattle.equation.proofs.Fitting.{line_fits}
use Rattle.equation.proofs.lines.line.Goals as goal

pub returns-in_err-equation_line-clause-fits : goal.returns-in_err-equation_line-clause-fits
returns-in_err-equation_line-clause-fits c = line_fits c.args.sheet.now c.rows.ensures.sound c.args.k

pub returns-clause-fits : goal.returns-clause-fits
returns-clause-fits c = line_fits c.args.sheet.now c.rows.ensures.sound c.args.k
