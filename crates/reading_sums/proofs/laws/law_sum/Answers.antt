use Rattle.std.proofs.Common.{FitsSigned, w32, rules}
use Rattle.std.proofs.lemmas.Int.{to_z-of_z}
use Rattle.reading_sums.specs.Given.{given}
use Rattle.reading_sums.proofs.Adding.{nth_term, law_more}
use Rattle.reading_sums.proofs.laws.law_sum.Goals as goal

pub loop-term-preserved : goal.loop-term-preserved
loop-term-preserved g c =
    let k = (nth_term c.args.law.now c.loop-term.term-index).coefficient in
    let fits : FitsSigned w32 k = search rules in
    law_more g.K.Quantity.group (given c.args.readings) c.args.law.now c.loop-term.term-index _ _ _ _ _ c.loop-term-test.true c.loop-term.invariant
    (to_z-of_z w32 k fits) c.value_or_rate.ensures c.multiple.ensures c.sum-sum.ensures
