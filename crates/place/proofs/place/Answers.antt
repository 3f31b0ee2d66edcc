use Rattle.std.proofs.Common.{ℕ, ◌+◌, [], ◌∷◌, Option, sym, ap, ◌∙◌}
use Rattle.std.proofs.lemmas.Result.{err_from_is_err_and}
use Rattle.plan_judging.specs.declared.refusals.PlaceRefusal.{PlaceRefusal}
use Rattle.refusal.specs.Tests.{answer, after}
use Rattle.sheet.specs.Counting.{counts_of}
use Rattle.plan_judging.specs.Alone.{judge_laws}
use Rattle.place.specs.Moved.{moved_laws}
use Rattle.place.specs.Parts.{plan_of}
use Rattle.place.specs.Place.{judge_room, with_assembly}
use Rattle.place.proofs.Judged.{stops_inside, left_to_room, passed_there, with_is, variables_are}
use Rattle.place.proofs.place.Goals as goal

pub returns-in_err-terms-clause-answer : goal.returns-in_err-terms-clause-answer
returns-in_err-terms-clause-answer g c =
    let b = c.args.draft.now in
    let m = g.A.Assembly.meaning c.args.part.now in
    let judged = stops_inside b c.counts-before.ensures.sound c.args.first c.args.second m _ c.judge_ends.ensures.proper c.in_ok-size.ensures.judged.0 c.in_err-terms.ensures in
    let p = err_from_is_err_and c.from_residual-in_err-terms.result c.from_residual-in_err-terms.ensures.1 in
    rw (p.1, p.2) (sym (ap (λ (o : Option PlaceRefusal). answer o (counts_of b)) judged))

pub returns-in_err-terms-clause-netlist : goal.returns-in_err-terms-clause-netlist
returns-in_err-terms-clause-netlist g c =
    let b = c.args.draft.now in
    let m = g.A.Assembly.meaning c.args.part.now in
    let judged = stops_inside b c.counts-before.ensures.sound c.args.first c.args.second m _ c.judge_ends.ensures.proper c.in_ok-size.ensures.judged.0 c.in_err-terms.ensures in
    sym (ap (λ (o : Option PlaceRefusal). after o b (with_assembly b m (c.args.first ∷ c.args.second ∷ []))) judged)

pub returns-in_err-judge_room-clause-answer : goal.returns-in_err-judge_room-clause-answer
returns-in_err-judge_room-clause-answer g c =
    let b = c.args.draft.now in
    let m = g.A.Assembly.meaning c.args.part.now in
    let passed = c.in_ok-terms.ensures in
    let judged =
    left_to_room b c.counts-before.ensures.sound c.args.first c.args.second m c.in_ok-size.size c.judge_ends.ensures.proper c.in_ok-size.ensures.judged.0 passed.0 c.in_ok-size.ensures.judged.1
    ∙ sym (λ i. judge_room b (c.added.ensures i) (passed.1 i))
    ∙ c.in_err-judge_room.ensures in
    let p = err_from_is_err_and c.from_residual-in_err-judge_room.result c.from_residual-in_err-judge_room.ensures.1 in
    rw (p.1, p.2) (sym (ap (λ (o : Option PlaceRefusal). answer o (counts_of b)) judged))

pub draw-requires-clause-rows : goal.draw-requires-clause-rows
draw-requires-clause-rows g c =
    let m = g.A.Assembly.meaning c.args.part.now in
    (passed_there c.args.draft.now c.counts-before.ensures.sound c.args.first c.args.second m c.judge_ends.ensures.proper c.in_ok-size.ensures.judged.0 c.in_ok-terms.ensures.0).0

pub draw-requires-clause-laws : goal.draw-requires-clause-laws
draw-requires-clause-laws g c =
    let b = c.args.draft.now in
    let m = g.A.Assembly.meaning c.args.part.now in
    let many = variables_are m c.in_ok-size.size c.in_ok-size.ensures.judged.1 in
    ap (λ (n : ℕ). judge_laws (b.variables + n) 0 (moved_laws b (plan_of m))) (sym many)
    ∙ (passed_there b c.counts-before.ensures.sound c.args.first c.args.second m c.judge_ends.ensures.proper c.in_ok-size.ensures.judged.0 c.in_ok-terms.ensures.0).1

pub returns-clause-answer : goal.returns-clause-answer
returns-clause-answer g c =
    let b = c.args.draft.now in
    let m = g.A.Assembly.meaning c.args.part.now in
    let passed = c.in_ok-terms.ensures in
    let judged =
    left_to_room b c.counts-before.ensures.sound c.args.first c.args.second m c.in_ok-size.size c.judge_ends.ensures.proper c.in_ok-size.ensures.judged.0 passed.0 c.in_ok-size.ensures.judged.1
    ∙ sym (λ i. judge_room b (c.added.ensures i) (passed.1 i))
    ∙ c.in_ok-judge_room.ensures in
    rw c.counts-before.ensures.value (sym (ap (λ (o : Option PlaceRefusal). answer o (counts_of b)) judged))

pub returns-clause-netlist : goal.returns-clause-netlist
returns-clause-netlist g c =
    let b = c.args.draft.now in
    let m = g.A.Assembly.meaning c.args.part.now in
    let given = c.args.first ∷ c.args.second ∷ [] in
    let passed = c.in_ok-terms.ensures in
    let sized = c.in_ok-size.ensures.judged.1 in
    let judged =
    left_to_room b c.counts-before.ensures.sound c.args.first c.args.second m c.in_ok-size.size c.judge_ends.ensures.proper c.in_ok-size.ensures.judged.0 passed.0 sized
    ∙ sym (λ i. judge_room b (c.added.ensures i) (passed.1 i))
    ∙ c.in_ok-judge_room.ensures in
    c.draw.ensures ∙ with_is b given m c.in_ok-size.size sized ∙ sym (ap (λ (o : Option PlaceRefusal). after o b (with_assembly b m given)) judged)
