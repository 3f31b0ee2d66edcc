use Rattle.std.proofs.Common.{◌≡◌, map, take}
use Rattle.netlist.specs.Netlist.{with_laws}
use Rattle.assembly.specs.Meaning.{laws_of}
use Rattle.plan_judging.specs.Terms.{law_from}
use Rattle.place.proofs.drawing.draw_laws.Given as goal

abbrev pub invariant-loop-k : goal.invariant-loop-k
invariant-loop-k g l = l.draft ≡ with_laws l.initial.draft (map (law_from l.from) (take l.k (laws_of (g.A.Assembly.meaning l.part))))
