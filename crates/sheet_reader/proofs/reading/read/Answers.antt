use Rattle.std.proofs.Common.{inr, rules}
use Rattle.sheet_reader.proofs.Laws.{reading_law}
use Rattle.sheet_reader.proofs.reading.read.Goals as goal

pub returns-clause-law : goal.returns-clause-law
returns-clause-law c =
    reading_law c.args.text.now c.args.draft.now c.draw_lines.new.draft c.draw_lines.result
    (inr (search rules, c.draw_lines.ensures))
