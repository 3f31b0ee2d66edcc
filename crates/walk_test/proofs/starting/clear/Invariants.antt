use Rattle.std.proofs.Common.{◌≡◌, ℕ, ◌<◌, get_or}
use Rattle.walk_test.proofs.starting.clear.Given as goal

abbrev pub invariant-loop-potential : goal.invariant-loop-potential
invariant-loop-potential g l =
    let zero = g.K.Quantity.group.zero in (v : ℕ) → v < l.potential-index → get_or l.potentials v zero ≡ zero
