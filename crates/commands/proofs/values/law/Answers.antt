use Rattle.std.proofs.Common.{arith}
use Rattle.commands.proofs.Slots.{filled_more, filled_end, filled_full}
use Rattle.commands.proofs.values.law.Goals as goal

pub loop-preserved : goal.loop-preserved
loop-preserved c =
    let was = c.loop.invariant in
    let told = c.in-Some.ensures in
    let pushed = c.push.ensures in
    (omega (arith, pushed.count), filled_more _ c.loop.terms c.push.new.self _ c.in-Some.term _ (omega arith) (pushed.slots, pushed.count) told.term told.none was.1)

pub returns-in_default : goal.returns-in_default
returns-in_default c = filled_end _ _ _ c.loop.invariant.1 c.in_default.ensures.term

pub returns-after-loop : goal.returns-after-loop
returns-after-loop c = filled_full _ _ _ c.loop.invariant.1 (omega arith)
