use Rattle.std.proofs.Common.{◌≡◌, ℕ, Bool, take}
use Rattle.network.specs.Flows.{net_flow}
use Rattle.reading_sums.specs.Sets.{IsTestOf}
use Rattle.reading_sums.proofs.flows.flow_out.Given as goal

abbrev pub invariant-loop-k : goal.invariant-loop-k
invariant-loop-k g l =
    (inside : ℕ → Bool) → IsTestOf inside (goal.F-post g l.is_inside) → l.sum ≡ net_flow g.K.Quantity.group (take l.k l.rows) l.values inside
