-- Whole numbers as a text writes them.
use Rattle.std.specs.Prelude.{◌≡◌, ℕ, ◌≤◌, ◌<◌, ◌⊎◌, ◌∷◌, length, ℤ, pos, neg_ℤ, unsigned_abs}
use Rattle.std.specs.List.{All}
use Rattle.small_readings.specs.Small.{IsSmall, largest_reading}
use Rattle.text.specs.Grammar.{Bytes, Digit}
use Rattle.text.specs.Decimal.{value_of_digits}
use Rattle.readings_text.specs.declared.numbers.Written.{Written}
use Rattle.readings_text.specs.declared.numbers.Written.TheVariants.{Small, Large}

-- one digit or more
pub record SomeDigits (f : Bytes) : Type 0 where
  pub digits : All Digit f
  pub some : 1 ≤ length f

-- the digits write the number
abbrev pub WritesPositive : Bytes → ℤ → Type 0
WritesPositive f z = SomeDigits f × (z ≡ pos (value_of_digits f))

-- they write its negation
abbrev pub WritesNegative : Bytes → ℤ → Type 0
WritesNegative f z = SomeDigits f × (z ≡ neg_ℤ (pos (value_of_digits f)))

-- the digits write the number, or a minus and the digits of its negation do
abbrev pub Writes : Bytes → ℤ → Type 0
Writes f z = WritesPositive f z ⊎ ((g : Bytes) × (f ≡ 45 ∷ g) × WritesNegative g z)

-- the size is what the digits write, and small
abbrev pub IsSmallSize : Bytes → ℕ → Type 0
IsSmallSize f size = (size ≡ value_of_digits f) × (size ≤ largest_reading)

-- no reading is this number, by its size
abbrev pub IsLarge : ℤ → Type 0
IsLarge z = largest_reading < unsigned_abs z

-- what is kept of a number of which P holds: the number itself, or that it is too large
abbrev pub Keeps : (ℤ → Type 0) → Written → Type 0
Keeps P (Small w) = P w.value × IsSmall w
Keeps P Large = (z : ℤ) × P z × IsLarge z
