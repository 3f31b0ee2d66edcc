-- The lowest number of which something fails.
use Rattle.std.specs.Prelude.{ℕ, ◌<◌}

-- of the numbers below m, k is the lowest that is bad: each lower one is good
pub record First (Good Bad : ℕ → Type 0) (m k : ℕ) : Type 0 where
  pub within : k < m
  pub before : (j : ℕ) → j < k → Good j
  pub here : Bad k
