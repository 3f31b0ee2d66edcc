use Rattle.std.proofs.Common.{◌≡◌, ◌<◌, Decides, slice_index, subst, arith}
use Rattle.walk_test.specs.Tested.{network_with}
use Rattle.walk_test.proofs.Taking.{row_tells, tail_moves, head_moves}
use Rattle.walk_test.proofs.joining.join.Goals as goal

pub returns-then-from-to : goal.returns-then-from-to
returns-then-from-to g c =
    let a = c.args in
    row_tells g.K.Quantity.group (network_with a.rows.now (g.A.Across.reading a.across.now)) a.k a.labels.now a.potentials.now
    c.requires.settled (λ j l. c.requires.drawn j (omega arith)) _ _ _ _ c.of-ends.ensures.tail c.of-ends.ensures.head c.reading.ensures c.gap-shift.ensures
    c.if-from-to.true c.equals.result (subst (λ x. Decides c.equals.result (c.gap-shift.result ≡ x)) c.zero.ensures c.equals.ensures)

pub returns-then-to-from : goal.returns-then-to-from
returns-then-to-from g c =
    let a = c.args in
    let change = c.relabel in
    tail_moves g.K.Quantity.group (network_with a.rows.now (g.A.Across.reading a.across.now)) a.k a.labels.now a.potentials.now
    c.requires.settled (λ j l. c.requires.drawn j (omega arith)) _ _ _ _ c.of-ends.ensures.tail c.of-ends.ensures.head c.reading.ensures c.gap-shift.ensures
    change.new.labels change.new.potentials change.auto.potentials c.if-to-from.true change.ensures

pub returns-else-to-from : goal.returns-else-to-from
returns-else-to-from g c =
    let a = c.args in
    let change = c.relabel-else-to-from in
    let lower : slice_index a.labels.now c.of-ends.result.tail < slice_index a.labels.now c.of-ends.result.head = omega arith in
    head_moves g.K.Quantity.group (network_with a.rows.now (g.A.Across.reading a.across.now)) a.k a.labels.now a.potentials.now
    c.requires.settled (λ j l. c.requires.drawn j (omega arith)) _ _ _ _ c.of-ends.ensures.tail c.of-ends.ensures.head c.reading.ensures c.gap-shift.ensures
    change.new.labels change.new.potentials change.auto.potentials lower _ c.negation.ensures change.ensures
