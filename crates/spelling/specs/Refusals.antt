-- The number, the place and the cause of each refusal to write.
use Rattle.std.specs.Prelude.{ℕ}
use Rattle.spelling.specs.declared.refusals.WriteRefusal.{WriteRefusal}
use Rattle.spelling.specs.declared.refusals.WriteRefusal.TheVariants.{ShortBuffer}

abbrev pub number_of : WriteRefusal → ℕ
number_of ShortBuffer = 13

abbrev pub place_of : WriteRefusal → ℕ
place_of ShortBuffer = 0

abbrev pub cause_of : WriteRefusal → ℕ
cause_of ShortBuffer = 0
