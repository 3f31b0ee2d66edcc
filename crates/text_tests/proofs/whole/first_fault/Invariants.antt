use Rattle.std.proofs.Common.{Option}
use Rattle.text.specs.Newlines.{lines_of}
use Rattle.text_tests.specs.declared.whole.Place.{Place}
use Rattle.text_tests.specs.Walk.{FirstFault}
use Rattle.text_tests.proofs.whole.first_fault.Given as goal

abbrev pub invariant-loop-line : goal.invariant-loop-line
invariant-loop-line l = (r : Option Place) → FirstFault l.line-iterator.taken (lines_of l.line-iterator.rest.now) r → FirstFault 0 (lines_of l.text) r
