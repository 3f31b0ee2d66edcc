use Rattle.std.proofs.Common.{arith}
use Rattle.reading_sums.proofs.listing.clear.Goals as goal

pub returns-clause-none : goal.returns-clause-none
returns-clause-none g c = λ n l. c.loop-sum.invariant n (omega (arith, l))
