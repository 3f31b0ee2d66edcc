use Rattle.std.proofs.Common.{◌≡◌, ◌+◌, subst, arith}
use Rattle.text.specs.Faults.{FaultAt}
use Rattle.text.specs.Scan.{Laid}
use Rattle.text.proofs.Gaps.{gap_fault, field_passed, field_stopped}
use Rattle.text.proofs.scan.Scanner.field.Goals as goal

pub returns-then-not-take-clause-skips : goal.returns-then-not-take-clause-skips
returns-then-not-take-clause-skips c = λ e ts fill all gap.
    let told = c.if-not-take.ensures.taken in
    let here : c.args.self.now.at + 1 ≡ c.fault.result.column = omega (arith, told.0) in
    subst (FaultAt (Laid all) c.args.self.now.line.now) here (gap_fault c.args.self.now.at _ (omega arith) gap told.1)

pub returns-in-0-clause-skips : goal.returns-in-0-clause-skips
returns-in-0-clause-skips c = λ e ts fill all gap.
    let here : c.sign.new.self.at + 1 ≡ c.fault-in-0.result.column = omega arith in
    subst (FaultAt (Laid all) c.args.self.now.line.now) here
    (field_stopped _ _ _ _ _ _ _ c.args.kind e ts fill gap c.if-not-take.ensures.taken c.take.ensures.same c.sign.ensures.end c.sign.ensures.same (omega arith) c.leading_digits.ensures c.in-0.is)

pub returns-in_default-clause-skips : goal.returns-in_default-clause-skips
returns-in_default-clause-skips c = λ e ts fill all gap.
    field_passed _ _ _ _ _ _ _ c.args.kind e ts fill gap c.if-not-take.ensures.taken c.take.ensures.same c.sign.ensures.end c.sign.ensures.same (omega arith) c.leading_digits.ensures (omega arith)
