-- How long a text, a field and its number may be.
use Rattle.std.specs.Prelude.{ℕ}

abbrev pub most_bytes : ℕ
most_bytes = 65536

abbrev pub most_digits : ℕ
most_digits = 7

-- what more digits write counts as this at most
abbrev pub largest_number : ℕ
largest_number = 2147483647
