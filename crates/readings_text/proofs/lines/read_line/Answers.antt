use Rattle.std.proofs.Common.{rules, refl}
use Rattle.readings_text.proofs.Pairs.{reading_kept, large_kept}
use Rattle.readings_text.proofs.lines.read_line.Goals as goal

pub returns-in_default-small_pair : goal.returns-in_default-small_pair
returns-in_default-small_pair c = (refl, large_kept c.args.line.bytes.now c.in-Some.pair c.in-Some.ensures c.in_default-small_pair.ensures)

pub returns-then-wanted-eq0 : goal.returns-then-wanted-eq0
returns-then-wanted-eq0 c = (refl, search rules, c.in-Some-small_pair.reading, reading_kept c.args.line.bytes.now c.in-Some.pair c.in-Some-small_pair.reading c.in-Some.ensures c.in-Some-small_pair.ensures)
