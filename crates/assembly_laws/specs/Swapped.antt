-- New numbers where some things change places with those that follow them.
use Rattle.std.specs.Prelude.{ℕ, ◌+◌, ◌-◌, cond, ◌||◌, nat_le, nat_lt}

-- Of the numbers from `from` on, the first m go behind the next n. Below and above these nothing changes.
abbrev pub swapped : ℕ → ℕ → ℕ → ℕ → ℕ
swapped from m n k = cond (nat_lt k from || nat_le (from + m + n) k) k (cond (nat_lt k (from + m)) (k + n) (k - m))
