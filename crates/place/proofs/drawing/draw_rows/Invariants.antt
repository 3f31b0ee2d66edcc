use Rattle.std.proofs.Common.{◌≡◌, map, take}
use Rattle.netlist.specs.Netlist.{with_rows}
use Rattle.assembly.specs.Meaning.{rows_of}
use Rattle.place.specs.Seats.{seated_row}
use Rattle.place.proofs.drawing.draw_rows.Given as goal

abbrev pub invariant-loop-k : goal.invariant-loop-k
invariant-loop-k g l = l.draft ≡ with_rows l.initial.draft (map (seated_row l.seat) (take l.k (rows_of (g.A.Assembly.meaning l.part))))
