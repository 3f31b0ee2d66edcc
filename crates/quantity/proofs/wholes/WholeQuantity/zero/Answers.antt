use Rattle.std.proofs.Common.{refl}
use Rattle.std.specs.Int.{int_wrap}
use Rattle.quantity.specs.Wholes.{whole_same}
use Rattle.quantity.proofs.wholes.WholeQuantity.zero.Goals as goal

pub returns : goal.returns
unfolding int_wrap
returns c = whole_same _ _ refl
