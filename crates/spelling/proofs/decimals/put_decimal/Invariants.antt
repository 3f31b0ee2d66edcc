use Rattle.std.proofs.Common.{◌≡◌, ℕ, ◌+◌, ◌≤◌, List, ◌++◌, length, decimal}
use Rattle.spelling.specs.Puts.{Put}
use Rattle.spelling.proofs.decimals.put_decimal.Given as goal

-- the digits behind those of the rest are written
abbrev pub invariant-loop-rest : goal.invariant-loop-rest
invariant-loop-rest l =
    (behind : List ℕ) × (decimal l.rest ++ behind ≡ decimal l.number) × (l.place ≡ l.at + length (decimal l.rest)) × (l.rest ≤ l.number) × Put l.initial.buffer l.place behind l.buffer l.end

abbrev pub decreases-loop-rest : goal.decreases-loop-rest
decreases-loop-rest l = l.rest
