-- The readings that a caller gives.
use Rattle.network.specs.Readings.{Readings}
use Rattle.reading_sums.specs.declared.readings.Readings.{Readings as Lent}

-- what stands behind the two slices
abbrev pub given : {G : Type 0} → Lent G → Readings G
given r = record { values = r.values.now; rates = r.rates.now }
