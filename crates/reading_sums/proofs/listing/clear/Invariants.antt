use Rattle.std.proofs.Common.{◌≡◌, ℕ, ◌<◌}
use Rattle.network.specs.Walks.{read}
use Rattle.reading_sums.proofs.listing.clear.Given as goal

abbrev pub invariant-loop-sum : goal.invariant-loop-sum
invariant-loop-sum g l = let 𝓖 = g.K.Quantity.group in (n : ℕ) → n < l.sum-index → read 𝓖 l.sums n ≡ 𝓖.zero
