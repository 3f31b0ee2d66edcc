use Rattle.std.proofs.Common.{ℕ, ◌-◌, rules, subst, Err, Some, sym}
use Rattle.readings_text.specs.declared.faults.ReadingsFault.TheVariants.{TooFew}
use Rattle.readings_text.specs.Lines.{ReadingAtFault, ReadsReading}
use Rattle.readings_text.specs.Readings.{ReadsReadings}
use Rattle.readings_text.proofs.Fitting.{readings_fit}
use Rattle.readings_text.proofs.Gathering.{Kept, one_more, at_fault, too_few, enough}
use Rattle.readings_text.proofs.reading.read_readings.Goals as goal

pub loop-line-preserved-in-Ok-Some : goal.loop-line-preserved-in-Ok-Some
loop-line-preserved-in-Ok-Some c =
    let was = c.loop-line.invariant in
    let step = c.in-Some.ensures.steps in
    let told : ReadsReading c.loop-line.wanted c.in-Some.line.bytes.now (Some c.in-Ok-Some.reading) = subst (ReadsReading c.loop-line.wanted c.in-Some.line.bytes.now) c.in-Ok-Some.field-0-is c.in-Ok-Some.ensures in
    let more : Kept c.args.text.now c.args.variables c.args.values.now.items c.args.rates.now.items (c.loop-line.wanted - 1) c.next.new.self.taken c.next.new.self.rest.now c.push.new.self.items c.push-in-Ok-Some.new.self.items =
    one_more c.args.text.now c.args.variables c.args.values.now.items c.args.rates.now.items c.loop-line.wanted c.loop-line.line-iterator.taken c.next.new.self.taken _ _ _ c.in-Ok-Some.reading _ _ _ _ (was.0, was.1, was.2, was.4) step.listed step.count told.0 told.1 (search rules) (search rules) in
    (more.0, more.1, more.2, search rules, more.3)

pub returns-in-Err-clause-reads : goal.returns-in-Err-clause-reads
returns-in-Err-clause-reads c =
    let was = c.loop-line.invariant in
    let step = c.in-Some.ensures.steps in
    at_fault c.args.text.now c.args.variables c.args.values.now.items c.args.rates.now.items c.loop-line.wanted c.loop-line.line-iterator.taken _ _ _ c.in-Err.fault _ _ (was.0, was.1, was.2, was.4) step.listed (subst (λ (k : ℕ). ReadingAtFault c.loop-line.wanted k c.in-Some.line.bytes.now c.in-Err.fault) step.number c.in-Err.ensures)

pub returns-then-wanted-gt0-clause-reads : goal.returns-then-wanted-gt0-clause-reads
returns-then-wanted-gt0-clause-reads c =
    let was = c.loop-line.invariant in
    subst (λ (k : ℕ). ReadsReadings c.args.text.now c.args.variables (Err (TooFew k)) c.args.values.now.items c.args.rates.now.items c.loop-line.values.items c.loop-line.rates.items) (sym was.3)
    (too_few c.args.text.now c.args.variables c.args.values.now.items c.args.rates.now.items c.loop-line.wanted c.loop-line.line-iterator.taken _ _ _ (was.0, was.1, was.2, was.4) c.in-None.ensures.steps.listed (search rules))

pub returns-clause-reads : goal.returns-clause-reads
returns-clause-reads c =
    let was = c.loop-line.invariant in
    enough c.args.text.now c.args.variables c.args.values.now.items c.args.rates.now.items c.loop-line.wanted c.loop-line.line-iterator.taken _ _ _ (was.0, was.1, was.2, was.4) c.in-None.ensures.steps.listed (search rules)

pub returns-in_err-push-in-Ok-Some-clause-fit : goal.returns-in_err-push-in-Ok-Some-clause-fit
returns-in_err-push-in-Ok-Some-clause-fit c = readings_fit

pub returns-in_err-push-in-Ok-Some-2-clause-fit : goal.returns-in_err-push-in-Ok-Some-2-clause-fit
returns-in_err-push-in-Ok-Some-2-clause-fit c = readings_fit

pub returns-in-Err-clause-fit : goal.returns-in-Err-clause-fit
returns-in-Err-clause-fit c = readings_fit

pub returns-then-wanted-gt0-clause-fit : goal.returns-then-wanted-gt0-clause-fit
returns-then-wanted-gt0-clause-fit c = readings_fit

pub returns-clause-fit : goal.returns-clause-fit
returns-clause-fit c = readings_fit
