use Rattle.std.proofs.Common.{◌≡◌, ap, ◌∙◌, w64, to_z, of_z}
use Rattle.std.proofs.lemmas.Int.{to_z-of_z}
use Rattle.quantity.specs.Wholes.{whole}
use Rattle.quantity.proofs.Images.{phasor_respects}
use Rattle.quantity.proofs.numbers.Phasor.new.Goals as goal

pub returns : goal.returns
returns c =
    let a = c.args.real in
    let b = c.args.imaginary in
    let real : to_z w64 (of_z w64 a) ≡ a = to_z-of_z w64 a c.ranges.real in
    let imaginary : to_z w64 (of_z w64 b) ≡ b = to_z-of_z w64 b c.ranges.imaginary in
    record {
      parts = (c.new.ensures.value ∙ real, c.new-2.ensures.value ∙ imaginary);
      image = λ i. record { real = (c.new.ensures.image ∙ ap whole real) i; imaginary = (c.new-2.ensures.image ∙ ap whole imaginary) i };
      map = phasor_respects;
    }
