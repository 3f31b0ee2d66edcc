use Rattle.std.proofs.Common.{length, sym, ap, ◌∙◌}
use Rattle.std.proofs.lemmas.Result.{err_from_is_err_and}
use Rattle.sheet.specs.declared.counts.Counts.{Counts}
use Rattle.draft.specs.Rules.{table_law, room_law}
use Rattle.refusal.specs.Tests.{first_of}
use Rattle.refusal.proofs.Tables.{stopped_at, passed_over}
use Rattle.draft.proofs.drafts.Draft.judge_law.Goals as goal

pub returns-in_err-accept_terms : goal.returns-in_err-accept_terms
returns-in_err-accept_terms c =
    let b = c.args.self.now in
    let ts = c.args.terms.now in
    let read = ap (λ (n : Counts). first_of (table_law n.variables ts)) (sym c.counts.ensures.value) in
    let p = err_from_is_err_and c.from_residual.result c.from_residual.ensures.1 in
    rw (p.1, p.2) (stopped_at (table_law b.variables ts) (room_law b.laws (length ts)) _ (read ∙ c.in_err-accept_terms.ensures))

pub returns-in_err-judge_law_room : goal.returns-in_err-judge_law_room
returns-in_err-judge_law_room c =
    let b = c.args.self.now in
    let ts = c.args.terms.now in
    let read = ap (λ (n : Counts). first_of (table_law n.variables ts)) (sym c.counts.ensures.value) in
    let p = err_from_is_err_and c.from_residual-in_err-judge_law_room.result c.from_residual-in_err-judge_law_room.ensures.1 in
    rw (p.1, p.2) (passed_over (table_law b.variables ts) (room_law b.laws (length ts)) (read ∙ c.in_ok-accept_terms.ensures.0) ∙ c.in_err-judge_law_room.ensures)

pub returns : goal.returns
returns c =
    let b = c.args.self.now in
    let ts = c.args.terms.now in
    let read = ap (λ (n : Counts). first_of (table_law n.variables ts)) (sym c.counts.ensures.value) in
    passed_over (table_law b.variables ts) (room_law b.laws (length ts)) (read ∙ c.in_ok-accept_terms.ensures.0) ∙ c.in_ok-judge_law_room.ensures
