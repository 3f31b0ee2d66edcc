-- How many copies there may be.
use Rattle.std.specs.Prelude.{ℕ}

abbrev pub most_copies : ℕ
most_copies = 1000
