use Rattle.std.proofs.Common.{length, ap, arith}
use Rattle.equation.proofs.Finding.{few_terms}
use Rattle.equation.proofs.lines.node_line.Goals as goal

pub put_node-count-requires : goal.put_node-count-requires
put_node-count-requires c =
    omega (arith, few_terms c.rows.result.now c.args.node, ap length c.rows.ensures.value, c.rows.ensures.sound.within.rows)
