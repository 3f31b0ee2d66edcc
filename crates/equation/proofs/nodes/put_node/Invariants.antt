use Rattle.std.proofs.Common.{◌≡◌, length, take}
use Rattle.netlist.specs.Buffers.{over}
use Rattle.equation.specs.Equations.{node_sum}
use Rattle.equation.proofs.nodes.put_node.Given as goal

abbrev pub invariant-loop-row : goal.invariant-loop-row
invariant-loop-row l =
    let sum = node_sum (take l.row-index l.rows) l.node in
    (l.count ≡ length sum) × (l.terms ≡ over l.initial.terms sum)
