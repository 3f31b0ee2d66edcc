use Rattle.std.proofs.Common.{◌∙◌, sym}
use Rattle.repeat.proofs.Counted.{no_copies_have, are_copies_have}
use Rattle.repeat.proofs.sizes.size_of_copies.Goals as goal

pub returns-in_err-new-clause-copies : goal.returns-in_err-new-clause-copies
returns-in_err-new-clause-copies c p bounds is e = no_copies_have c.args.times c.args.part c.in_err-new.ensures p bounds is e ∙ sym c.from_residual.ensures

pub returns-clause-copies : goal.returns-clause-copies
returns-clause-copies c = are_copies_have c.args.times c.args.part _ c.in_ok-new.ensures
