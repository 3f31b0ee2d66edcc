use Rattle.std.proofs.Common.{length, List, [], ap, ◌∙◌, Ok, Err, refl, sym, subst}
use Rattle.quantity.specs.declared.numbers.Whole.{Whole}
use Rattle.small_readings.specs.Small.{AreSmall}
use Rattle.readings_text.specs.Readings.{ReadsReadings}
use Rattle.answering.proofs.Fitting.{readings_of}
use Rattle.answering.proofs.answers.answer.Goals as goal

pub print_draft-requires-clause-values : goal.print_draft-requires-clause-values
print_draft-requires-clause-values c =
    let read : ReadsReadings c.args.readings_text.now c.read.new.draft.variables (Ok tt) [] [] c.read_readings.new.values.items c.read_readings.new.rates.items =
    rw (c.new-values.ensures.items, c.new-rates.ensures.items, ap (λ n. n.variables) c.counts-wanted.ensures.value, c.in_default-2.is) at c.in_ok-fault.ensures.reads in
    ap (λ (xs : List Whole). length xs) c.as_slice.ensures.value ∙ (readings_of c.in_ok-fault.ensures.fit _ _ _ _ read).values_fit

pub print_draft-requires-clause-rates : goal.print_draft-requires-clause-rates
print_draft-requires-clause-rates c =
    let read : ReadsReadings c.args.readings_text.now c.read.new.draft.variables (Ok tt) [] [] c.read_readings.new.values.items c.read_readings.new.rates.items =
    rw (c.new-values.ensures.items, c.new-rates.ensures.items, ap (λ n. n.variables) c.counts-wanted.ensures.value, c.in_default-2.is) at c.in_ok-fault.ensures.reads in
    ap (λ (xs : List Whole). length xs) c.as_slice-2.ensures.value ∙ (readings_of c.in_ok-fault.ensures.fit _ _ _ _ read).rates_fit

pub print_draft-requires-clause-small_values : goal.print_draft-requires-clause-small_values
print_draft-requires-clause-small_values c =
    let read : ReadsReadings c.args.readings_text.now c.read.new.draft.variables (Ok tt) [] [] c.read_readings.new.values.items c.read_readings.new.rates.items =
    rw (c.new-values.ensures.items, c.new-rates.ensures.items, ap (λ n. n.variables) c.counts-wanted.ensures.value, c.in_default-2.is) at c.in_ok-fault.ensures.reads in
    subst AreSmall (sym c.as_slice.ensures.value) (readings_of c.in_ok-fault.ensures.fit _ _ _ _ read).small_values

pub print_draft-requires-clause-small_rates : goal.print_draft-requires-clause-small_rates
print_draft-requires-clause-small_rates c =
    let read : ReadsReadings c.args.readings_text.now c.read.new.draft.variables (Ok tt) [] [] c.read_readings.new.values.items c.read_readings.new.rates.items =
    rw (c.new-values.ensures.items, c.new-rates.ensures.items, ap (λ n. n.variables) c.counts-wanted.ensures.value, c.in_default-2.is) at c.in_ok-fault.ensures.reads in
    subst AreSmall (sym c.as_slice-2.ensures.value) (readings_of c.in_ok-fault.ensures.fit _ _ _ _ read).small_rates

pub print_draft-requires-clause-potentials : goal.print_draft-requires-clause-potentials
print_draft-requires-clause-potentials c = c.as_mut_slice.ensures.len ∙ c.in_ok-potentials.ensures.len ∙ ap (λ n. n.nodes) c.counts.ensures.value

pub returns : goal.returns
returns c =
    let read : ReadsReadings c.args.readings_text.now c.read.new.draft.variables (Ok tt) [] [] c.read_readings.new.values.items c.read_readings.new.rates.items =
    rw (c.new-values.ensures.items, c.new-rates.ensures.items, ap (λ n. n.variables) c.counts-wanted.ensures.value, c.in_default-2.is) at c.in_ok-fault.ensures.reads in (
      c.read.new.draft,
      record { values = c.read_readings.new.values.items; rates = c.read_readings.new.rates.items },
      c.print_draft.new.potentials,
      record { drawn = rw c.in_ok-draft.ensures at c.in_default.ensures.reads; read = read },
      rw (c.as_slice.ensures.value, c.as_slice-2.ensures.value) at c.in_ok-verdict.ensures,
    )

pub returns-in-Err-2 : goal.returns-in-Err-2
returns-in-Err-2 c =
    let told : ReadsReadings c.args.readings_text.now c.read.new.draft.variables (Err c.in-Err-2.fault) [] [] c.read_readings.new.values.items c.read_readings.new.rates.items =
    rw (c.new-values.ensures.items, c.new-rates.ensures.items, ap (λ n. n.variables) c.counts-wanted.ensures.value, c.in-Err-2.is) at c.in_ok-fault.ensures.reads in (
      c.read.new.draft,
      record { values = c.read_readings.new.values.items; rates = c.read_readings.new.rates.items },
      rw c.in_ok-draft.ensures at c.in_default.ensures.reads,
      told,
      refl,
    )
