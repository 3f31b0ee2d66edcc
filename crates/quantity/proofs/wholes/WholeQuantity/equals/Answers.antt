use Rattle.std.proofs.Common.{ap, rules}
use Rattle.quantity.specs.Wholes.{whole_same}
use Rattle.quantity.proofs.wholes.WholeQuantity.equals.Goals as goal

pub returns : goal.returns
returns c = (λ e. whole_same _ _ (search rules), λ e. let v = ap (λ x. x.value) e in search rules)
