use Rattle.std.proofs.Common.{length, ap, arith}
use Rattle.equation.proofs.Counting.{equations_are}
use Rattle.equation.proofs.listing.count.Goals as goal

pub overflow_add-result : goal.overflow_add-result
overflow_add-result c =
    let w = c.rows-rows.ensures.sound.within in
    omega (arith, c.len.ensures, c.nodes.ensures, ap length c.laws.ensures, w.laws, w.nodes)

pub overflow_add-result-2 : goal.overflow_add-result-2
overflow_add-result-2 c =
    let w = c.rows-rows.ensures.sound.within in
    omega (arith, c.len.ensures, c.nodes.ensures, ap length c.laws.ensures, ap length c.rows-rows.ensures.value, w.laws, w.nodes, w.rows)

pub returns : goal.returns
returns c =
    omega (arith, c.len.ensures, c.nodes.ensures, ap length c.laws.ensures, ap length c.rows-rows.ensures.value, equations_are c.args.sheet.now c.rows-rows.ensures.sound)
