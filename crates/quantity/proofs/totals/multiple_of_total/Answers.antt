use Rattle.std.proofs.Common.{sym, ◌∙◌, ap₂, w32}
use Rattle.std.proofs.lemmas.Int.{to_z-of_z}
use Rattle.quantity.specs.Totals.{total}
use Rattle.quantity.proofs.Multiplying.{multiples}
use Rattle.quantity.proofs.totals.multiple_of_total.Goals as goal

pub returns : goal.returns
returns g c =
    let 𝓖 = g.K.Quantity.group in
    let k = c.args.coefficient in
    let xs = c.args.quantities.now in
    record {
      value = ◌∙◌ {b = 𝓖.multiple k (total 𝓖 xs)}
          (c.multiple.ensures ∙ ap₂ 𝓖.multiple (to_z-of_z w32 k c.ranges.coefficient) c.total.ensures.value)
          (sym (c.total.ensures.totals.multiplied k xs));
      multiples = multiples 𝓖;
    }
