use Rattle.std.proofs.lemmas.Result.{err_from_is_err_and}
use Rattle.draft.specs.Rules.{table_row, room_row}
use Rattle.refusal.proofs.Tables.{stopped_at}
use Rattle.draft.proofs.drafts.Draft.judge_row.Goals as goal

pub returns-in_err-judge_row : goal.returns-in_err-judge_row
returns-in_err-judge_row c =
    let b = c.args.self.now in
    let p = err_from_is_err_and c.from_residual.result c.from_residual.ensures.1 in
    rw (p.1, p.2) (stopped_at (table_row b c.args.row) (room_row b.rows) _ c.in_err-judge_row.ensures)
