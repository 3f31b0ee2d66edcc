use Rattle.std.proofs.Common.{sym, ap, ap₂, ◌∙◌}
use Rattle.std.proofs.lemmas.List.{take_all}
use Rattle.std.proofs.lemmas.List.Sums.{fold_more}
use Rattle.calls.specs.Calls.{enter, entered}
use Rattle.calls.proofs.calls.run.Goals as goal

pub loop-call-preserved : goal.loop-call-preserved
loop-call-preserved g c =
    let next = enter g.A.Assembly.meaning in
    let calls = c.args.calls.now in
    c.make.ensures.netlist
    ∙ ap₂ next c.loop-call.invariant c.call-item.is
    ∙ sym (fold_more next c.args.draft.now calls c.loop-call.call-index c.call-item.result c.loop-call-test.true)

pub returns : goal.returns
returns g c =
    c.loop-call.invariant
    ∙ ap (entered g.A.Assembly.meaning c.args.draft.now) (take_all c.loop-call.call-index c.args.calls.now c.loop-call-test.false)
