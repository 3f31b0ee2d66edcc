use Rattle.tree.proofs.Nodes.{two_proper, copies_proper}
use Rattle.tree.proofs.trees.TreeAssembly.size.Goals as goal

pub returns-in_ok-sizes-in-Two-clause-proper : goal.returns-in_ok-sizes-in-Two-clause-proper
returns-in_ok-sizes-in-Two-clause-proper c =
    two_proper c.self.view_is c.self.invariant c.in-Two.is c.in_ok-sizes-in-Two.field-0 (cc)

pub returns-in_ok-sizes-in-Repeat-clause-proper : goal.returns-in_ok-sizes-in-Repeat-clause-proper
returns-in_ok-sizes-in-Repeat-clause-proper c =
    copies_proper c.self.view_is c.self.invariant c.in-Repeat.is c.in_ok-sizes-in-Repeat.field-0 (cc)
