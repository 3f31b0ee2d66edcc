-- The whole numbers modulo 2^64, held signed, are a group.
use Rattle.std.specs.Prelude.{◌≡◌, ◌^◌, ◌<◌, List, map, ℤ, pos, ◌+ℤ◌, ◌*ℤ◌, FitsSigned}
use mathlib.Core.HLevel.{is_prop→PathP}
use Rattle.std.proofs.Math.Bridge.{le_prop}
use Rattle.std.specs.Int.Signed.{mag}
use Rattle.std.specs.Int.{int_wrap, w64}
use Rattle.std.proofs.lemmas.Int.{SFits-int_wrap, int_wrap_fits, int_wrap-add_left}
use Rattle.quantity.specs.Group.{Group}
use Rattle.quantity.specs.Totals.{total}
use Rattle.quantity.specs.Integers.{integers}
use Rattle.quantity.specs.Residues.{Wrapping, residues}
use Rattle.quantity.specs.declared.numbers.Whole.{Whole}

-- the whole number of an integer: the one from -2^63 to 2^63 - 1 that differs from it by a multiple of 2^64
abbrev pub whole : ℤ → Whole
whole z = record { value = int_wrap w64 z; held = (SFits-int_wrap w64 z).sfits }

-- two whole numbers of one value are equal
pub whole_same : (x y : Whole) → x.value ≡ y.value → x ≡ y
whole_same x y e = λ i.
    record { value = e i; held = is_prop→PathP (λ j. mag (e j) < 2 ^ 63) (λ j. le_prop) x.held y.held i }

pub whole_fits : (x : Whole) → FitsSigned w64 x.value
whole_fits x = record { sfits = x.held }

abbrev pub whole_wrapping : Wrapping Whole
whole_wrapping = record {
  of = whole;
  value = λ x. x.value;
  of_value = λ x. whole_same (whole x.value) x (int_wrap_fits w64 x.value (whole_fits x));
  wrap_left = λ a b. whole_same _ _ (int_wrap-add_left w64 a b);
}

abbrev pub wholes : Group Whole
wholes = residues whole_wrapping

-- THEOREM: an integer from -2^63 to 2^63 - 1 is held as it is, and integers that differ by a multiple of 2^64 are held
-- alike
pub record Modular : Type 0 where
  pub near : (z : ℤ) → mag z < 2 ^ 63 → (whole z).value ≡ z
  pub around : (z k : ℤ) → whole (z +ℤ k *ℤ pos (2 ^ 64)) ≡ whole z

-- THEOREM: the sum of integers is exact if it is from -2^63 to 2^63 - 1, even where a sum on the way is not
abbrev pub ExactTotals : Type 0
ExactTotals =
    (zs : List ℤ) → mag (total integers zs) < 2 ^ 63 → (total wholes (map whole zs)).value ≡ total integers zs
