-- The number, the place and the cause of the refusal of a check.
use Rattle.std.specs.Prelude.{ℕ}
use Rattle.checking.specs.declared.refusals.CheckRefusal.{CheckRefusal}
use Rattle.checking.specs.declared.refusals.CheckRefusal.TheVariants.{WrongCount}

abbrev pub number_of : CheckRefusal → ℕ
number_of WrongCount = 14

abbrev pub place_of : CheckRefusal → ℕ
place_of WrongCount = 0

abbrev pub cause_of : CheckRefusal → ℕ
cause_of WrongCount = 0
