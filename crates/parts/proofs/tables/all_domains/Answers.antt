use Rattle.std.proofs.Common.{◌∙◌, rules, tests}
use Rattle.std.proofs.lemmas.Iterator.{YieldsList-from_slice}
use Rattle.std.proofs.lemmas.Iterator.Search.{all_from_yields_List}
use Rattle.netlist.specs.Sound.{is_domain}
use Rattle.parts.proofs.Every.{all_every}
use Rattle.parts.proofs.tables.all_domains.Goals as goal

pub returns : goal.returns
returns c =
    all_from_yields_List is_domain _ _ _ c.all.ensures.ran (YieldsList-from_slice c.args.numbers.now cc) (λ x r q k. search (rules, tests))
    ∙ all_every is_domain c.args.numbers.now
