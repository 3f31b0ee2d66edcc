use Rattle.std.proofs.Common.{sym, arith}
use Rattle.std.specs.List.{range_with_len}
use Rattle.std.proofs.lemmas.List.{get_or_past}
use Rattle.std.proofs.lemmas.List.FromFn.{length-range_with_len, get_or-range_with_len}
use Rattle.layers.specs.Renumbered.{absent}
use Rattle.layers.proofs.renumbering.shifted.Goals as goal

pub returns-then-i-from : goal.returns-then-i-from
returns-then-i-from c = omega (arith, get_or-range_with_len c.args.from c.args.count c.args.i absent (omega arith))

pub returns-else-i-from : goal.returns-else-i-from
returns-else-i-from c =
    sym (get_or_past (range_with_len c.args.from c.args.count) c.args.i _ (omega (arith, length-range_with_len c.args.from c.args.count)))
