use Rattle.std.proofs.Common.{◌≡◌, take}
use Rattle.network.specs.Laws.{law_sum}
use Rattle.reading_sums.specs.Given.{given}
use Rattle.reading_sums.proofs.laws.law_sum.Given as goal

abbrev pub invariant-loop-term : goal.invariant-loop-term
invariant-loop-term g l = l.sum ≡ law_sum g.K.Quantity.group (take l.term-index l.law) (given l.readings)
