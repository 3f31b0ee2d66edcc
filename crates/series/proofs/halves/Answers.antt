use Rattle.std.proofs.Common.{sym, ◌∙◌}
use Rattle.layers.specs.Layer.{same_domain}
use Rattle.layers.proofs.Halving.{halved}
use Rattle.series.specs.Series.{meet}
use Rattle.series.proofs.InSeries.{series_layout}
use Rattle.series.proofs.halves.Goals as goal

pub returns : goal.returns
returns g c =
    halved series_layout meet (g.A.Assembly.meaning c.args.first.now) (g.B.Assembly.meaning c.args.second.now) _
    c.in_ok-one.ensures.value c.in_ok-other.ensures.value
    c.in_ok-one.ensures.proper c.in_ok-other.ensures.proper
    (sym (c.if-not-same_domain.ensures ∙ (λ i. same_domain (c.domain.ensures i) (c.domain-2.ensures i))))
    c.new.ensures
