use Rattle.std.proofs.Common.{◌∙◌, arith, rules}
use Rattle.std.proofs.lemmas.Result.{err_from_is_err_and}
use Rattle.text.specs.Faults.{FaultAt}
use Rattle.text.specs.Scan.{Gap, Laid}
use Rattle.text.proofs.Gaps.{group_more, gap_all}
use Rattle.text.proofs.scan.Scanner.group.Goals as goal

pub returns-in_err-field : goal.returns-in_err-field
returns-in_err-field c =
    let p = err_from_is_err_and c.from_residual.result c.from_residual.ensures.1 in
    let was = c.loop-kind.invariant in
    let told = c.in_err-field.ensures in
    rw (p.1, p.2) (record {
      same = told.same ∙ was.same;
      places = omega (arith, told.places);
      skips = λ ts all gap. group_more (λ all l e us. FaultAt (Laid all) l c.in_err-field.field-0.0.column) all _ _ _ c.loop-kind.kind-index _ _ ts was.same c.loop-kind-test.true (search rules) told.skips (was.gap all ts gap);
    })

pub loop-kind-preserved : goal.loop-kind-preserved
loop-kind-preserved c =
    let was = c.loop-kind.invariant in
    let told = c.in_ok-field.ensures in
    record {
      same = told.same ∙ was.same;
      on = omega (arith, told.places);
      gap = λ all ts gap. group_more (λ all l e us. Gap all l c.field.new.self.at e us) all _ _ _ c.loop-kind.kind-index _ _ ts was.same c.loop-kind-test.true (search rules) told.skips (was.gap all ts gap);
    }

pub returns : goal.returns
returns c =
    let was = c.loop-kind.invariant in record {
      same = was.same;
      places = was.on;
      skips = λ ts all gap. gap_all c.args.kinds.now c.loop-kind.kind-index c.loop-kind.self.at ts c.loop-kind-test.false (was.gap all ts gap);
    }
