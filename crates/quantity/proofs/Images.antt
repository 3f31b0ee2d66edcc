-- The quantities that integers are held as.
use Rattle.std.proofs.Common.{◌≡◌, ◌^◌, ℤ, pos, ◌+ℤ◌, ◌*ℤ◌, sym, refl, ap, ◌∙◌, w64}
use Rattle.std.specs.Int.{int_wrap}
use Rattle.std.proofs.lemmas.Int.{int_wrap_fits}
use Rattle.quantity.specs.Totals.{total}
use Rattle.quantity.specs.Maps.{Respects}
use Rattle.quantity.specs.Integers.{integers}
use Rattle.quantity.specs.Residues.{Wrapping, wrap_right, residues}
use Rattle.quantity.specs.Wholes.{whole, whole_wrapping, whole_same, wholes, Modular, ExactTotals}
use Rattle.quantity.specs.Phasors.{Point, points, phasor, phasors}
use Rattle.quantity.specs.declared.numbers.Whole.{Whole}
use Rattle.quantity.proofs.Groups.{right}
use Rattle.quantity.proofs.Multiplying.{multiple_zero}
use Rattle.quantity.proofs.Mapping.{respects}

-- of any integers that are held wrapped
pub wrapped_sum : {K : Type 0} (W : Wrapping K) (a b : ℤ) → W.of (a +ℤ b) ≡ (residues W).sum (W.of a) (W.of b)
wrapped_sum W a b = sym (W.wrap_left a (W.value (W.of b)) ∙ wrap_right W a b)

pub wrapped_respects : {K : Type 0} (W : Wrapping K) → Respects integers (residues W) W.of
wrapped_respects W = respects integers (residues W) W.of (wrapped_sum W)

pub whole_respects : Respects integers wholes whole
whole_respects = wrapped_respects whole_wrapping

-- 2^64 is held as 0
round : whole (pos (2 ^ 64)) ≡ wholes.zero
unfolding int_wrap
round = whole_same _ _ refl

pub whole_around : (z k : ℤ) → whole (z +ℤ k *ℤ pos (2 ^ 64)) ≡ whole z
whole_around z k =
    whole_respects.sum z (k *ℤ pos (2 ^ 64))
    ∙ ap (wholes.sum (whole z)) (whole_respects.multiple k (pos (2 ^ 64)) ∙ ap (wholes.multiple k) round ∙ multiple_zero wholes k)
    ∙ right wholes (whole z)

pub whole_modular : Modular
whole_modular = record {
  near = λ z low. int_wrap_fits w64 z (record { sfits = low });
  around = whole_around;
}

pub whole_totals : ExactTotals
whole_totals zs low = ap (λ (x : Whole). x.value) (sym (whole_respects.totals zs)) ∙ whole_modular.near (total integers zs) low

pub phasor_sum : (x y : Point) → phasor (points.sum x y) ≡ phasors.sum (phasor x) (phasor y)
phasor_sum x y = λ i. record {
  real = wrapped_sum whole_wrapping x.real y.real i;
  imaginary = wrapped_sum whole_wrapping x.imaginary y.imaginary i;
}

pub phasor_respects : Respects points phasors phasor
phasor_respects = respects points phasors phasor phasor_sum
