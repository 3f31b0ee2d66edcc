use Rattle.std.proofs.Common.{ap, ◌∙◌}
use Rattle.std.specs.List.{slice_get}
use Rattle.assembly.specs.Meaning.{Meaning, domains_of}
use Rattle.side_by_side.proofs.InParallel.{domains_joined}
use Rattle.side_by_side.proofs.SideBySideAssembly.domain.Goals as goal

pub returns : goal.returns
returns g c =
    c.domain.ensures
    ∙ (λ i. slice_get (domains_joined c.in_ok-pair.ensures.halved i) c.args.node)
    ∙ ap (λ (w : Meaning). slice_get (domains_of w) c.args.node) c.in_ok-pair.ensures.whole_is
