use Rattle.std.proofs.Common.{◌+◌, ◌<◌, length, sym, ap, ◌∙◌, subst₂, arith}
use Rattle.std.proofs.lemmas.List.{get_or_read}
use Rattle.walk_test.proofs.Moving.{Moving, keeps, moves}
use Rattle.walk_test.proofs.joining.relabel.Goals as goal
use Rattle.walk_test.proofs.joining.relabel.Goals.{then-labels-v, else-labels-v}

pub loop-node-preserved : goal.loop-node-preserved
loop-node-preserved g c =
    let 𝓖 = g.K.Quantity.group in
    let a = c.args in
    let l = c.loop-node in
    let inside : l.node < length l.potentials = omega arith in
    let So = Moving 𝓖 a.from a.to a.shift a.labels.now a.potentials.now (l.node + 1 + 1) in
    elim c.if-labels-v.branch [
      | then-labels-v w ↦
          let read = get_or_read l.potentials _ _ inside w.index-potentials-node.is 𝓖.zero in
          subst₂ So (sym w.labels-is) (sym w.potentials-is)
          (moves 𝓖 a.from a.to a.shift a.labels.now a.potentials.now l.node l.labels l.potentials l.invariant
          w.sum.result (omega arith) inside w.if-labels-v.true (w.sum.ensures ∙ ap (λ y. 𝓖.sum y a.shift) read))
      | else-labels-v w ↦
          subst₂ So (sym w.labels-is) (sym w.potentials-is)
          (keeps 𝓖 a.from a.to a.shift a.labels.now a.potentials.now (l.node + 1) l.labels l.potentials l.invariant w.if-labels-v.false)
    ]
