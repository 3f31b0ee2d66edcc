use Rattle.std.proofs.Common.{Ok, length, ap, ◌∙◌}
use Rattle.reading_sums.specs.Given.{given}
use Rattle.checking.proofs.Answering.{agree, row_fails}
use Rattle.checking.proofs.Exactly.{exact_verdicts}
use Rattle.checking.proofs.Fitting.{one_each, walks_begin}
use Rattle.checking.proofs.checks.check.Goals as goal

pub unwrap-requires : goal.unwrap-requires
unwrap-requires g c =
    let a = c.args in
    let b = a.sheet.now in
    let count = c.first_node.auto.sums ∙ c.clear.auto.potentials ∙ one_each b (given a.readings) (length a.potentials.now) c.in_ok-judge_counts.ensures in
    walks_begin b c.rows-rows.ensures.sound g.K.Quantity.group c.rows-rows.result.now _ c.first_node.new.sums _ c.test_walks.result c.rows-rows.ensures.value count c.test_walks.ensures

pub returns-in-WalksClose-clause-checked : goal.returns-in-WalksClose-clause-checked
returns-in-WalksClose-clause-checked g c =
    let a = c.args in
    agree g.K.Quantity.group a.sheet.now c.rows-rows.ensures.sound (given a.readings) a.potentials.now c.first_node.new.sums c.test_walks.new.potentials c.in_ok-judge_counts.ensures (c.first_node.auto.sums ∙ c.clear.auto.potentials)
    c.in_default.ensures c.in_default-first_node.ensures.found c.rows-rows.result.now c.rows-rows.ensures.value c.test_walks.result c.test_walks.ensures (c.unwrap.ensures ∙ ap (λ f. Ok f) c.in-WalksClose.is)

pub returns-in-SomeWalkFails-clause-checked : goal.returns-in-SomeWalkFails-clause-checked
returns-in-SomeWalkFails-clause-checked g c =
    let a = c.args in
    row_fails g.K.Quantity.group a.sheet.now c.rows-rows.ensures.sound (given a.readings) a.potentials.now c.first_node.new.sums c.test_walks.new.potentials c.in_ok-judge_counts.ensures (c.first_node.auto.sums ∙ c.clear.auto.potentials)
    c.in_default.ensures c.in_default-first_node.ensures.found c.rows-rows.result.now c.rows-rows.ensures.value c.test_walks.result c.test_walks.ensures c.in-SomeWalkFails.row (c.unwrap.ensures ∙ ap (λ f. Ok f) c.in-SomeWalkFails.is)

pub returns-in-WalksClose-clause-exact : goal.returns-in-WalksClose-clause-exact
returns-in-WalksClose-clause-exact g c = exact_verdicts

pub returns-in-SomeWalkFails-clause-exact : goal.returns-in-SomeWalkFails-clause-exact
returns-in-SomeWalkFails-clause-exact g c = exact_verdicts

pub returns-in_err-judge_counts-clause-exact : goal.returns-in_err-judge_counts-clause-exact
returns-in_err-judge_counts-clause-exact g c = exact_verdicts

pub returns-in-Some-clause-exact : goal.returns-in-Some-clause-exact
returns-in-Some-clause-exact g c = exact_verdicts

pub returns-in-Some-first_node-clause-exact : goal.returns-in-Some-first_node-clause-exact
returns-in-Some-first_node-clause-exact g c = exact_verdicts
