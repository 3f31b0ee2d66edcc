use Rattle.std.proofs.Common.{◌≡◌, ◌∙◌, ap, rules}
use Rattle.std.specs.List.{fold}
use Rattle.std.proofs.lemmas.Iterator.{YieldsList-from_slice}
use Rattle.std.proofs.lemmas.Iterator.Consumers.{fold_from_yields_List}
use Rattle.quantity.specs.Totals.{total}
use Rattle.quantity.proofs.Adding.{totals, total_folded}
use Rattle.quantity.proofs.totals.total.Goals as goal

pub returns : goal.returns
returns g c =
    let 𝓖 = g.K.Quantity.group in
    let is : c.fold.result ≡ fold 𝓖.sum c.zero.result c.args.quantities.now =
    fold_from_yields_List _ 𝓖.sum c.zero.result c.fold.result c.fold.ensures.ran (YieldsList-from_slice c.args.quantities.now cc) (λ a x b q call. search rules) in
    record {
      value = is ∙ total_folded 𝓖 c.zero.result c.args.quantities.now ∙ ap (λ s. 𝓖.sum s (total 𝓖 c.args.quantities.now)) c.zero.ensures ∙ 𝓖.neutral _;
      totals = totals 𝓖;
    }
