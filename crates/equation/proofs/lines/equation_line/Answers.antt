use Rattle.std.proofs.Common.{◌<◌, ◌-◌, length, refl, ap, ◌∙◌, arith}
use Rattle.equation.proofs.Counting.{length_listed}
use Rattle.equation.proofs.Finding.{next_node, next_row}
use Rattle.equation.proofs.Printing.{lined}
use Rattle.equation.proofs.lines.equation_line.Goals as goal

pub returns-then-node-nodes : goal.returns-then-node-nodes
returns-then-node-nodes c =
    let b = c.args.sheet.now in
    let laws = ap length c.laws-laws.ensures in
    let n = next_node b c.args.k _ b.rows (omega (arith, c.if-node-nodes.true)) refl (omega (arith, c.in_default.ensures)) in
    lined b c.args.k c.args.buffer.now _ b.variables _ _ n refl c.node_line.ensures

-- the row is drawn
within : (c : goal.After-rows) → c.args.k - c.len.result - c.nodes-nodes.result < length c.rows.result.now
within c =
    let b = c.args.sheet.now in
    omega (arith, c.requires, length_listed b.laws b.rows (length b.domains) b.variables, c.in_default.ensures, c.if-node-nodes.false, ap length c.laws-laws.ensures, ap length c.rows.ensures.value, c.len.ensures, c.nodes-nodes.ensures)

pub bounds-rows-node : goal.bounds-rows-node
bounds-rows-node c = within c

pub offset_bounds-rows-node : goal.offset_bounds-rows-node
offset_bounds-rows-node c = omega (arith, within c, ap length c.rows.ensures.value, c.rows.ensures.sound.within.rows)

pub returns : goal.returns
returns c =
    let b = c.args.sheet.now in
    let i = c.args.k - c.len.result - c.nodes-nodes.result in
    let laws = ap length c.laws-laws.ensures in
    let rows = ap length c.rows.ensures.value in
    let count = length_listed b.laws b.rows (length b.domains) b.variables in
    let drawn : i < length c.rows.result.now = omega (arith, c.requires, count, c.in_default.ensures, c.if-node-nodes.false, laws, rows) in
    let n = next_row b c.args.k i c.variables-variables.result c.rows.result.now _ c.terms.result.now drawn c.rows.ensures.value c.variables-variables.ensures (omega (arith, c.in_default.ensures, c.if-node-nodes.false, laws)) (c.terms.ensures ∙ c.new.ensures) in
    lined b c.args.k c.args.buffer.now _ _ _ _ n c.variables-variables.ensures (record { answer = c.write_line-2.ensures.answer; buffer = c.write_line-2.ensures.buffer })
