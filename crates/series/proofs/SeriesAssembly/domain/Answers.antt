use Rattle.std.proofs.Common.{sym, ap, ◌∙◌}
use Rattle.std.specs.List.{slice_get}
use Rattle.assembly.specs.Meaning.{Meaning, domains_of}
use Rattle.series.proofs.InSeries.{domain_second, domain_joint, domain_other}
use Rattle.series.proofs.SeriesAssembly.domain.Goals as goal

pub returns-then-node-eq1 : goal.returns-then-node-eq1
returns-then-node-eq1 g c =
    c.domain.ensures ∙ domain_second c.in_ok-pair.ensures.halved
    ∙ (λ i. slice_get (domains_of (c.in_ok-pair.ensures.whole_is i)) (sym c.if-node-eq1.true i))

pub returns-then-node-from : goal.returns-then-node-from
returns-then-node-from g c =
    c.domain-then-node-from.ensures
    ∙ domain_joint c.in_ok-pair.ensures.halved c.args.node (c.if-node-from.true ∙ c.from.ensures ∙ c.joint.ensures)
    ∙ ap (λ (w : Meaning). slice_get (domains_of w) c.args.node) c.in_ok-pair.ensures.whole_is

pub returns : goal.returns
returns g c =
    c.domain-else-node-from.ensures
    ∙ domain_other c.in_ok-pair.ensures.halved c.args.node c.if-node-eq1.false
    (λ e. c.if-node-from.false (e ∙ sym (c.from.ensures ∙ c.joint.ensures)))
    ∙ ap (λ (w : Meaning). slice_get (domains_of w) c.args.node) c.in_ok-pair.ensures.whole_is
