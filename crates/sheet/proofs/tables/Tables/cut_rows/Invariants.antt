use Rattle.std.proofs.Common.{◌≡◌, length, take}
use Rattle.sheet.proofs.tables.Tables.cut_rows.Given as goal

abbrev pub invariant-loop-self : goal.invariant-loop-self
invariant-loop-self l = record l.self { rows = take l.rows l.self.rows } ≡ record l.fn.self { rows = take l.rows l.fn.self.rows }

abbrev pub decreases-loop-self : goal.decreases-loop-self
decreases-loop-self l = length l.self.rows
