use Rattle.std.proofs.Common.{rules}
use Rattle.std.proofs.lemmas.Int.{wraps}
use Rattle.quantity.specs.Wholes.{whole_same}
use Rattle.quantity.proofs.wholes.WholeQuantity.multiple.Goals as goal

pub returns : goal.returns
returns c = whole_same _ _ (search (rules, wraps))
