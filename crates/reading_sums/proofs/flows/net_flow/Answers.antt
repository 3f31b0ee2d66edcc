use Rattle.std.proofs.Common.{◌∙◌, rules}
use Rattle.netlist.specs.Flags.{flag_up}
use Rattle.network.proofs.Flowing.{flow_is_excess}
use Rattle.reading_sums.proofs.flows.net_flow.Goals as goal

pub returns-clause-added : goal.returns-clause-added
returns-clause-added g c = λ n drawn.
    let inside = flag_up c.args.marks.now in
    c.flow_out.ensures inside (λ u answer small is. search rules) ∙ flow_is_excess g.K.Quantity.group c.args.rows.now c.args.values.now n drawn inside
