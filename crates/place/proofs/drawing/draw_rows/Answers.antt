use Rattle.std.proofs.Common.{◌≡◌, [], ◌∷◌, length, Some, Option, ap, ◌∙◌, arith}
use Rattle.std.specs.List.{slice_get}
use Rattle.std.specs.Result.{is_ok}
use Rattle.draft.specs.declared.refusals.DraftRefusal.{DraftRefusal}
use Rattle.netlist.specs.Netlist.{with_rows}
use Rattle.draft.specs.Rules.{judge_row}
use Rattle.refusal.specs.Tests.{answer, after}
use Rattle.assembly.specs.Meaning.{rows_of}
use Rattle.place.specs.Seats.{seated_row}
use Rattle.place.proofs.Drawn.{row_more, next_row}
use Rattle.place.proofs.drawing.draw_rows.Goals as goal

pub unwrap-requires : goal.unwrap-requires
unwrap-requires g c =
    let b = c.loop-k.draft in
    let k = c.loop-k.k in
    let row = c.unwrap-row.result in
    let f = seated_row c.args.seat in
    let rows = rows_of (g.A.Assembly.meaning c.args.part.now) in
    let at : slice_get rows k ≡ Some row = cc in
    let judged = (λ i. judge_row (c.loop-k.invariant i) (c.row-in-loop-k.ensures i)) ∙ next_row c.args.draft.now f rows k row at c.requires.passed (omega arith) in
    ap is_ok (c.draw_row.ensures.answer ∙ ap (λ (o : Option DraftRefusal). answer o (length b.rows)) judged)

pub loop-k-preserved : goal.loop-k-preserved
loop-k-preserved g c =
    let b = c.loop-k.draft in
    let k = c.loop-k.k in
    let row = c.unwrap-row.result in
    let f = seated_row c.args.seat in
    let rows = rows_of (g.A.Assembly.meaning c.args.part.now) in
    let at : slice_get rows k ≡ Some row = cc in
    let judged = (λ i. judge_row (c.loop-k.invariant i) (c.row-in-loop-k.ensures i)) ∙ next_row c.args.draft.now f rows k row at c.requires.passed (omega arith) in
    c.draw_row.ensures.netlist
    ∙ ap (λ (o : Option DraftRefusal). after o b (with_rows b (c.row-in-loop-k.result ∷ []))) judged
    ∙ (λ i. with_rows (c.loop-k.invariant i) (c.row-in-loop-k.ensures i ∷ []))
    ∙ row_more c.args.draft.now rows k row at f
