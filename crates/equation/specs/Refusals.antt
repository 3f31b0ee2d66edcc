-- The number, the place and the cause of each refusal to list or print equations.
use Rattle.std.specs.Prelude.{ℕ}
use Rattle.equation.specs.declared.refusals.EquationRefusal.{EquationRefusal}
use Rattle.equation.specs.declared.refusals.EquationRefusal.TheVariants.{ShortBuffer, NoEquation}
use Rattle.spelling.specs.declared.refusals.WriteRefusal.{WriteRefusal}
use Rattle.spelling.specs.declared.refusals.WriteRefusal.TheVariants.{ShortBuffer as NoRoom}

abbrev pub number_of : EquationRefusal → ℕ
number_of ShortBuffer = 13
number_of NoEquation = 15

abbrev pub place_of : EquationRefusal → ℕ
place_of ShortBuffer = 0
place_of NoEquation = 0

abbrev pub cause_of : EquationRefusal → ℕ
cause_of ShortBuffer = 0
cause_of NoEquation = 0

-- a line that is not written
abbrev pub of_write : WriteRefusal → EquationRefusal
of_write NoRoom = ShortBuffer
