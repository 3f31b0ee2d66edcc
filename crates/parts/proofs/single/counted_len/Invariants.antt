use Rattle.std.proofs.Common.{◌≡◌, ◌+◌, ◌≤◌, length, drop, filter}
use Rattle.parts.specs.Single.{is_counted}
use Rattle.parts.proofs.single.counted_len.Given as goal

abbrev pub invariant-loop-x : goal.invariant-loop-x
invariant-loop-x l = (l.n ≤ l.x-index) × (l.n + length (filter is_counted (drop l.x-index l.terms)) ≡ length (filter is_counted l.terms))
