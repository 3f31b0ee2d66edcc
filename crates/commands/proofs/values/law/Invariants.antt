use Rattle.std.proofs.Common.{◌≡◌}
use Rattle.text.specs.Reading.{rest_of}
use Rattle.commands.proofs.Slots.{Filled}
use Rattle.commands.proofs.values.law.Given as goal

abbrev pub invariant-loop : goal.invariant-loop
invariant-loop l = (l.terms.count ≡ l.counter) × Filled (rest_of l.initial.fields) l.terms (rest_of l.fields)
