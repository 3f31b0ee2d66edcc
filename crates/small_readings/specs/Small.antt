-- Readings that are far from where whole numbers wrap.
use Rattle.std.specs.Prelude.{ℕ, ◌^◌, ◌≤◌, List, All, unsigned_abs}
use Rattle.quantity.specs.declared.numbers.Whole.{Whole}

-- 1,099,511,627,776
abbrev pub largest_reading : ℕ
largest_reading = 2 ^ 40

-- the reading is from -2^40 to 2^40
abbrev pub IsSmall : Whole → Type 0
IsSmall x = unsigned_abs x.value ≤ largest_reading

abbrev pub AreSmall : List Whole → Type 0
AreSmall readings = All IsSmall readings
