use Rattle.std.proofs.Common.{◌≡◌, ◌+◌, ◌-◌, true, false, length, refl, ap, ◌∙◌, subst, arith}
use Rattle.std.proofs.lemmas.Result.{err_from_is_err_and}
use Rattle.text.specs.Grammar.{Allowed}
use Rattle.text.specs.Faults.{FaultAt}
use Rattle.text.specs.Scan.{layout, Gap, Laid}
use Rattle.text.proofs.Forms.{allowed_any, fault_any}
use Rattle.text.proofs.Gaps.{gap_start, layout_more, gap_inside, gap_last, last_fault}
use Rattle.text.proofs.scan.scan.Goals as goal

pub loop-init : goal.loop-init
loop-init c =
    let ks = c.args.shape.kinds.now in
    let n = c.args.shape.most in
    let all : n ≡ n - 0 = omega arith in
    record {
      same = refl;
      on = omega arith;
      gap = subst (λ m. Gap (layout ks n) c.args.line.now 1 false (layout ks m)) all (gap_start _ ks n (omega arith) (omega arith) (omega arith));
    }

pub returns-in_err-group : goal.returns-in_err-group
returns-in_err-group c =
    let p = err_from_is_err_and c.from_residual.result c.from_residual.ensures.1 in
    let told = c.in_err-group.ensures in
    let was = c.loop.invariant in
    let ks = c.args.shape.kinds.now in
    let n = c.args.shape.most in
    rw (p.1, p.2)
    (fault_any ks c.args.line.now n _ (omega arith) c.requires.form (omega (arith, told.places))
    (layout_more (λ all l ts. FaultAt (Laid all) l c.in_err-group.field-0.0.column) _ _ ks n c.loop.counter _ was.same (omega arith) (omega arith) told.skips was.gap))

pub returns-then-scanner-line : goal.returns-then-scanner-line
returns-then-scanner-line c =
    let told = c.in_ok-group.ensures in
    let was = c.loop.invariant in
    let ks = c.args.shape.kinds.now in
    let n = c.args.shape.most in
    let gap = layout_more (λ all l ts. Gap all l c.group.new.self.at true ts) _ _ ks n c.loop.counter _ was.same (omega arith) (omega arith) told.skips was.gap in
    allowed_any ks c.args.line.now n (omega arith) c.requires.form (gap.end_out c.if-scanner-line.true refl)

pub loop-preserved : goal.loop-preserved
loop-preserved c =
    let told = c.in_ok-group.ensures in
    let was = c.loop.invariant in
    let ks = c.args.shape.kinds.now in
    let n = c.args.shape.most in
    let gap = layout_more (λ all l ts. Gap all l c.group.new.self.at true ts) _ _ ks n c.loop.counter _ was.same (omega arith) (omega arith) told.skips was.gap in
    let same = told.same ∙ was.same in
    let long = ap length same in
    record { same = same; on = omega (arith, told.places); gap = gap_inside _ true false _ (omega arith) gap }

pub returns : goal.returns
returns c =
    let was = c.loop.invariant in
    let ks = c.args.shape.kinds.now in
    let n = c.args.shape.most in
    let long = ap length was.same in
    let here : c.loop.scanner.at + 1 ≡ c.fault.result.column = omega arith in
    subst (FaultAt Allowed c.args.line.now) here
    (fault_any ks c.args.line.now n _ (omega arith) c.requires.form (omega (arith, was.on))
    (last_fault _ (omega arith) (gap_last ks n c.loop.counter _ (omega arith) was.gap)))
