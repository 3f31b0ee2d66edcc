-- One that goes behind those that follow it, or before those that it follows.
use Rattle.std.proofs.Common.{◌≡◌, ℕ, ◌+◌, ◌-◌, ◌<◌, ◌≤◌, ◌∙◌, arith}
use Rattle.assembly_laws.specs.Swapped.{swapped}
use Rattle.assembly_laws.proofs.Swapped.{swapped_low, swapped_high, swapped_first, swapped_next, swapped_back}

abbrev pub behind : ℕ → ℕ → ℕ → ℕ
behind from count = swapped from 1 count

abbrev pub before : ℕ → ℕ → ℕ → ℕ
before from count = swapped from count 1

module _ (from count : ℕ) where
  pub behind_low : (n : ℕ) → n < from → behind from count n ≡ n
  behind_low = swapped_low from 1 count

  pub behind_high : (n : ℕ) → from + count < n → behind from count n ≡ n
  behind_high n l = swapped_high from 1 count n (omega arith)

  pub behind_first : behind from count from ≡ from + count
  behind_first = swapped_first from 1 count from (omega arith) (omega arith)

  pub behind_rest : (n : ℕ) → from < n → n ≤ from + count → behind from count n ≡ n - 1
  behind_rest n l h = swapped_next from 1 count n (omega arith) (omega arith)

  pub before_low : (n : ℕ) → n < from → before from count n ≡ n
  before_low = swapped_low from count 1

  pub before_last : before from count (from + count) ≡ from
  before_last = swapped_next from count 1 (from + count) (omega arith) (omega arith) ∙ omega arith

  pub before_rest : (n : ℕ) → from ≤ n → n < from + count → before from count n ≡ n + 1
  before_rest = swapped_first from count 1

  pub behind_before : (n : ℕ) → behind from count (before from count n) ≡ n
  behind_before = swapped_back from count 1

  pub before_behind : (n : ℕ) → before from count (behind from count n) ≡ n
  before_behind = swapped_back from 1 count
