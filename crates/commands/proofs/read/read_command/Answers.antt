use Rattle.std.proofs.lemmas.Result.{err_from_is_err_and}
use Rattle.commands.proofs.Meanings.{follows, faulty}
use Rattle.commands.proofs.read.read_command.Goals as goal

pub returns-in_err-read : goal.returns-in_err-read
returns-in_err-read c =
    let p = err_from_is_err_and c.from_residual.result c.from_residual.ensures.1 in
    rw (p.1, p.2) (faulty _ _ c.in_err-read.ensures)

pub returns : goal.returns
returns c =
    let told = c.in_ok-read.ensures in
    follows c.args.line c.in_ok-read.read _ told.0 told.1 c.command_of.ensures
