use Rattle.std.proofs.Common.{◌≡◌, sym, ap, ◌∙◌}
use Rattle.quantity.specs.Group.{minus}
use Rattle.quantity.proofs.Groups.{negations, minus_same, same_from_minus}
use Rattle.quantity.proofs.differences.difference.Goals as goal

pub returns : goal.returns
returns g c =
    let 𝓖 = g.K.Quantity.group in
    let x = c.args.x in
    let y = c.args.y in
    let value : c.sum.result ≡ minus 𝓖 x y = ◌∙◌ {b = 𝓖.sum x c.negation.result} c.sum.ensures (ap (𝓖.sum x) c.negation.ensures) in
    record {
      value = value;
      equal = (λ e. same_from_minus 𝓖 x y (sym value ∙ e), λ e. value ∙ minus_same 𝓖 x y e);
      negations = negations 𝓖;
    }
