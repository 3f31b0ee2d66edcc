use Rattle.std.proofs.Common.{sym}
use Rattle.repeat.proofs.InCopies.{not_small_times}
use Rattle.repeat.proofs.copies.Copies.new.Goals as goal

pub returns-then-not-is_small : goal.returns-then-not-is_small
returns-then-not-is_small c = not_small_times c.args.times c.args.part (sym c.if-not-is_small.ensures)
