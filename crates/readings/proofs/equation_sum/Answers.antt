use Rattle.std.proofs.Common.{FitsSigned, w32, rules}
use Rattle.std.proofs.lemmas.Int.{to_z-of_z}
use Rattle.network.specs.Walks.{read}
use Rattle.reading_sums.specs.Given.{given}
use Rattle.reading_sums.proofs.Adding.{nth_term}
use Rattle.readings.proofs.Agreeing.{equations_by_part, equations_agree}
use Rattle.readings.proofs.Evaluating.{sum_more}
use Rattle.readings.proofs.equation_sum.Goals as goal

pub loop-term-preserved : goal.loop-term-preserved
loop-term-preserved g c =
    let 𝓖 = g.K.Quantity.group in
    let a = c.args in
    let k = (nth_term a.equation.now c.loop-term.term-index).coefficient in
    let fits : FitsSigned w32 k = search rules in
    sum_more 𝓖 a.variables (given a.readings) (read 𝓖 a.potentials.now) a.equation.now c.loop-term.term-index _ _ _ _ _ c.loop-term-test.true c.loop-term.invariant
    (to_z-of_z w32 k fits) c.term_reading-read.ensures c.multiple.ensures c.sum-sum.ensures

pub returns-clause-by_part : goal.returns-clause-by_part
returns-clause-by_part g c = equations_by_part g.K.Quantity.group

pub returns-clause-agree : goal.returns-clause-agree
returns-clause-agree g c = equations_agree g.K.Quantity.group
