use Rattle.std.proofs.Common.{ℤ, rules}
use Rattle.readings_text.specs.Lines.{WritesPair}
use Rattle.readings_text.proofs.Splitting.{First, Halves, halves, joined}
use Rattle.readings_text.proofs.lines.split_line.Goals as goal

pub returns-then-at-line : goal.returns-then-at-line
returns-then-at-line c = λ x y h.
    let told = c.first_blank-at.ensures in
    let p = (halves c.args.line.now c.first_blank-at.result x y (record { within = told.within; before = told.before; found = told.found }) h).inside in
    search rules

pub returns-in_err-value : goal.returns-in_err-value
returns-in_err-value c =
    let told = c.first_blank-at.ensures in
    let all : (x y : ℤ) → WritesPair c.args.line.now x y → Halves c.args.line.now c.first_blank-at.result x y = λ x y h. halves c.args.line.now c.first_blank-at.result x y (record { within = told.within; before = told.before; found = told.found }) h in
    rw c.from_residual.ensures (λ x y h. c.in_err-value.ensures x (all x y h).value)

pub returns-in_err-rate : goal.returns-in_err-rate
returns-in_err-rate c =
    let told = c.first_blank-at.ensures in
    let all : (x y : ℤ) → WritesPair c.args.line.now x y → Halves c.args.line.now c.first_blank-at.result x y = λ x y h. halves c.args.line.now c.first_blank-at.result x y (record { within = told.within; before = told.before; found = told.found }) h in
    rw c.from_residual-in_err-rate.ensures (λ x y h. c.in_err-rate.ensures y (all x y h).rate)

pub returns : goal.returns
returns c =
    let told = c.first_blank-at.ensures in
    let first : First c.args.line.now c.first_blank-at.result = record { within = told.within; before = told.before; found = told.found } in
    (_, _, joined c.args.line.now c.first_blank-at.result first (search rules), search rules, search rules)
