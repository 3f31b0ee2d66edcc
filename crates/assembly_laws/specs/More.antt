-- One copy more of a part.
use Rattle.std.specs.Prelude.{ℕ, ◌+◌, ◌-◌, ◌*◌, ◌<◌, ◌≤◌}
use Rattle.assembly.specs.Meaning.{Meaning, Proper}
use Rattle.series.specs.Series.{series}
use Rattle.repeat.specs.Limits.{most_copies}
use Rattle.repeat.specs.Repeat.{repeated}
use Rattle.assembly_laws.specs.Placed.{inner_count}
use Rattle.assembly_laws.specs.ButNodes.{MeansButNodes}
use Rattle.assembly_laws.specs.Swapped.{swapped}

-- Of n + 1 copies, the inner nodes of the last come before the joints of the others; where the last is taken
-- by itself, behind them.
abbrev pub last_behind : ℕ → Meaning → ℕ → ℕ
last_behind n m = swapped (2 + n * inner_count m) (inner_count m) (n - 1)

abbrev pub last_before : ℕ → Meaning → ℕ → ℕ
last_before n m = swapped (2 + n * inner_count m) (n - 1) (inner_count m)

-- THEOREM: n + 1 copies are n copies in series with one more, but for the nodes' numbers
abbrev pub OneCopyMore : Type 0
OneCopyMore =
    (n : ℕ) → 1 ≤ n → n < most_copies → (m : Meaning) → Proper m
    → MeansButNodes (last_behind n m) (last_before n m) (repeated (n + 1) m) (series (repeated n m) m)
