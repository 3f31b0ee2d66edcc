use Rattle.std.proofs.Common.{◌≡◌, take}
use Rattle.network.specs.Walks.{read}
use Rattle.reading_sums.specs.Given.{given}
use Rattle.readings.specs.Readings.{equation_sum}
use Rattle.readings.proofs.equation_sum.Given as goal

abbrev pub invariant-loop-term : goal.invariant-loop-term
invariant-loop-term g l =
    let 𝓖 = g.K.Quantity.group in
    l.sum ≡ equation_sum 𝓖 l.variables (given l.readings) (read 𝓖 l.potentials) (take l.term-index l.equation)
