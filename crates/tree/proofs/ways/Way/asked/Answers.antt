use Rattle.std.proofs.Common.{◌∙◌, sym, subst}
use Rattle.tree.specs.Ways.{AsksRightly}
use Rattle.tree.proofs.Asks.{second_asked, joint_asked, other_asked, beside_asked}
use Rattle.tree.proofs.ways.Way.asked.Goals as goal

pub returns-then-node-eq1 : goal.returns-then-node-eq1
returns-then-node-eq1 c = second_asked c.args.parts c.args.node c.in-Series.is c.if-node-eq1.true

pub returns-then-node-from : goal.returns-then-node-from
returns-then-node-from c =
    joint_asked c.args.parts c.args.node c.in-Series.is (c.if-node-from.true ∙ c.from.ensures ∙ c.joint.ensures)

pub returns-else-node-from : goal.returns-else-node-from
returns-else-node-from c =
    subst (AsksRightly c.args.self c.args.parts c.args.node) (sym c.joined.ensures)
    (other_asked c.args.parts c.args.node c.in-Series.is c.if-node-eq1.false
    (λ e. c.if-node-from.false (e ∙ sym (c.from.ensures ∙ c.joint.ensures))))

pub returns-in-SideBySide : goal.returns-in-SideBySide
returns-in-SideBySide c =
    subst (AsksRightly c.args.self c.args.parts c.args.node) (sym c.joined-in-SideBySide.ensures)
    (beside_asked c.args.parts c.args.node c.in-SideBySide.is)
