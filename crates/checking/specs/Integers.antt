-- What a verdict on whole numbers says of the unbounded integers.
use Rattle.std.specs.Prelude.{List}
use Rattle.quantity.specs.Integers.{integers}
use Rattle.quantity.specs.Wholes.{wholes}
use Rattle.quantity.specs.declared.numbers.Whole.{Whole}
use Rattle.netlist.specs.Netlist.{Netlist}
use Rattle.netlist.specs.Sound.{Sound}
use Rattle.network.specs.Readings.{Readings}
use Rattle.small_readings.specs.Exact.{values_of, integers_of}
use Rattle.small_readings.specs.Small.{AreSmall}
use Rattle.checking.specs.declared.verdicts.Verdict.{Verdict}
use Rattle.checking.specs.Potentials.{Filled}
use Rattle.checking.specs.Verdicts.{VerdictIs}

-- it is the verdict on the readings' values, and the potentials' values are those that go with it
abbrev pub JudgesIntegers : Netlist → Readings Whole → List Whole → Verdict → Type 0
JudgesIntegers b r potentials verdict =
    VerdictIs integers b (integers_of r) verdict × Filled integers b (integers_of r) (values_of potentials) verdict

-- where all values and rates of the netlist's variables are small, whatever is the verdict on them modulo 2^64,
-- with the potentials that go with it, is so over the integers
abbrev pub ExactOf : Netlist → Type 0
ExactOf b =
    (r : Readings Whole) → AreSmall r.values → AreSmall r.rates
    → (verdict : Verdict) (potentials : List Whole)
    → VerdictIs wholes b r verdict → Filled wholes b r potentials verdict → JudgesIntegers b r potentials verdict

-- THEOREM: nothing is lost of the small readings of a sheet
abbrev pub ExactVerdicts : Type 0
ExactVerdicts = (b : Netlist) → Sound b → ExactOf b
