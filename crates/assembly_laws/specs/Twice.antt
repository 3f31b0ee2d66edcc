-- Two copies of a part.
use Rattle.std.specs.Prelude.{◌≡◌}
use Rattle.assembly.specs.Meaning.{Meaning, Proper}
use Rattle.series.specs.Series.{series}
use Rattle.repeat.specs.Repeat.{repeated}

-- THEOREM: two copies of a part are the part in series with itself
abbrev pub TwiceIsSeries : Type 0
TwiceIsSeries = (m : Meaning) → Proper m → repeated 2 m ≡ series m m
