use Rattle.std.proofs.Common.{◌≡◌, sym, ◌∙◌, w64, to_z, of_z}
use Rattle.std.proofs.lemmas.Int.{to_z-of_z, int_wrap_fits}
use Rattle.quantity.specs.Wholes.{whole_same}
use Rattle.quantity.proofs.Images.{whole_respects, whole_modular, whole_totals}
use Rattle.quantity.proofs.numbers.Whole.new.Goals as goal

pub returns : goal.returns
returns c =
    let z = c.args.value in
    let back : to_z w64 (of_z w64 z) ≡ z = to_z-of_z w64 z c.ranges.value in
    record {
      value = back;
      image = whole_same _ _ (back ∙ sym (int_wrap_fits w64 z c.ranges.value));
      map = whole_respects;
      modular = whole_modular;
      exact = whole_totals;
    }
