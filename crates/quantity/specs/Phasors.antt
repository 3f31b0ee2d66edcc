-- The phasors are a group, as pairs of whole numbers.
use Rattle.std.specs.Prelude.{ℤ, refl}
use Rattle.quantity.specs.Group.{Group}
use Rattle.quantity.specs.Integers.{integers}
use Rattle.quantity.specs.Pairs.{Pairing, pairs}
use Rattle.quantity.specs.Wholes.{whole, wholes}
use Rattle.quantity.specs.declared.numbers.Phasor.{Phasor}
use Rattle.quantity.specs.declared.numbers.Whole.{Whole}

abbrev pub phasor_parts : Pairing Phasor Whole Whole
phasor_parts = record {
  make = λ a b. record { real = a; imaginary = b };
  left = λ p. p.real;
  right = λ p. p.imaginary;
  left_of = λ a b. refl;
  right_of = λ a b. refl;
  made_of = λ p. refl;
}

abbrev pub phasors : Group Phasor
phasors = pairs phasor_parts wholes wholes

-- a phasor with unbounded parts
pub record Point : Type 0 where
  pub real : ℤ
  pub imaginary : ℤ

abbrev pub point_parts : Pairing Point ℤ ℤ
point_parts = record {
  make = λ a b. record { real = a; imaginary = b };
  left = λ p. p.real;
  right = λ p. p.imaginary;
  left_of = λ a b. refl;
  right_of = λ a b. refl;
  made_of = λ p. refl;
}

abbrev pub points : Group Point
points = pairs point_parts integers integers

-- the phasor of a point, part by part
abbrev pub phasor : Point → Phasor
phasor p = record { real = whole p.real; imaginary = whole p.imaginary }
