use Rattle.std.proofs.Common.{◌≡◌, map, take}
use Rattle.netlist.specs.Domains.{domain_number}
use Rattle.netlist.specs.Netlist.{with_nodes}
use Rattle.place.specs.Parts.{plan_of}
use Rattle.place.proofs.drawing.draw_nodes.Given as goal

abbrev pub invariant-loop-j : goal.invariant-loop-j
invariant-loop-j g l = l.draft ≡ with_nodes l.initial.draft (map domain_number (take l.j (plan_of (g.A.Assembly.meaning l.part)).inner))
