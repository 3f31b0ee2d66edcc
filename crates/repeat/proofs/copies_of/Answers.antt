use Rattle.std.proofs.Common.{sym, ◌∙◌}
use Rattle.layers.specs.Layer.{same_domain}
use Rattle.repeat.proofs.InCopies.{copied}
use Rattle.repeat.proofs.copies_of.Goals as goal

pub returns : goal.returns
returns g c =
    copied c.args.times (g.A.Assembly.meaning c.args.part.now) _
    c.in_ok-size.ensures.value c.in_ok-size.ensures.proper
    (sym (c.if-not-same_domain.ensures ∙ (λ i. same_domain (c.domain.ensures i) (c.domain-2.ensures i))))
    c.new.ensures
