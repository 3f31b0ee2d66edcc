-- Three parts in series.
use Rattle.std.specs.Prelude.{ℕ, ◌+◌}
use Rattle.assembly.specs.Meaning.{Meaning, Proper}
use Rattle.series.specs.Series.{series}
use Rattle.assembly_laws.specs.Placed.{inner_count}
use Rattle.assembly_laws.specs.ButNodes.{MeansButNodes}
use Rattle.assembly_laws.specs.Swapped.{swapped}

-- Where the first two are taken together first, their joint comes before the inner nodes of the third and
-- the other joint; where the last two are, behind them.
abbrev pub joint_to_back : Meaning → Meaning → Meaning → ℕ → ℕ
joint_to_back m n o = swapped (2 + inner_count m + inner_count n) 1 (inner_count o + 1)

abbrev pub joint_to_front : Meaning → Meaning → Meaning → ℕ → ℕ
joint_to_front m n o = swapped (2 + inner_count m + inner_count n) (inner_count o + 1) 1

-- THEOREM: it makes no difference which two are taken together first, but for the number of a joint
abbrev pub SeriesIsAssociative : Type 0
SeriesIsAssociative =
    (m n o : Meaning) → Proper m → Proper n → Proper o
    → MeansButNodes (joint_to_back m n o) (joint_to_front m n o) (series (series m n) o) (series m (series n o))
