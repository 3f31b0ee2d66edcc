use Rattle.std.proofs.Common.{◌≡◌, ◌++◌, drop}
use Rattle.answering.specs.Potentials.{potentials_text}
use Rattle.answering.proofs.potentials.print_potentials.Given as goal

-- with the lines of the nodes that are left, all is printed
abbrev pub invariant-loop-node : goal.invariant-loop-node
invariant-loop-node l =
    l.out.items ++ potentials_text l.node (drop l.node l.potentials) ≡ l.fn.out.items ++ potentials_text 0 l.potentials
