use Rattle.reading_sums.proofs.Adding.{flow_more}
use Rattle.reading_sums.proofs.flows.flow_out.Goals as goal

pub loop-k-preserved : goal.loop-k-preserved
loop-k-preserved g c = λ inside is.
    flow_more g.K.Quantity.group c.args.values.now inside c.args.rows.now c.loop-k.k _ _ _ c.loop-k-test.true
    (c.loop-k.invariant inside is) (c.leaves.ensures inside is) c.sum-sum.ensures
