use Rattle.std.proofs.Common.{sym, ap, ◌∙◌}
use Rattle.std.proofs.lemmas.Bool.{and_parts, and_from}
use Rattle.std.proofs.lemmas.Bool.Decides.{Decides-int_eq}
use Rattle.quantity.specs.Wholes.{whole_same}
use Rattle.quantity.specs.declared.numbers.Phasor.{Phasor}
use Rattle.quantity.proofs.phasors.PhasorQuantity.equals.Goals as goal

pub returns : goal.returns
returns c =
    let x = c.args.self in
    let y = c.args.other in
    let real = Decides-int_eq x.real.value y.real.value in
    let imaginary = Decides-int_eq x.imaginary.value y.imaginary.value in (
      λ e.
          let both = and_parts _ _ (sym c.eq.ensures ∙ e) in
          λ i. record {
            real = whole_same x.real y.real (real.0 both.0) i;
            imaginary = whole_same x.imaginary y.imaginary (imaginary.0 both.1) i;
          },
      λ e. c.eq.ensures ∙ and_from _ _ (real.1 (ap (λ (p : Phasor). p.real.value) e)) (imaginary.1 (ap (λ (p : Phasor). p.imaginary.value) e)),
    )
