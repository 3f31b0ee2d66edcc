use Rattle.netlist.specs.Netlist.{Netlist}
use Rattle.text.specs.Newlines.{lines_of}
use Rattle.sheet_reader.specs.Reading.{TextAnswer, ReadsLines}
use Rattle.sheet_reader.proofs.reading.draw_lines.Given as goal

-- reading on from the lines that are left is reading all of them
abbrev pub invariant-loop-line : goal.invariant-loop-line
invariant-loop-line l =
    (r : TextAnswer) (c : Netlist)
    → ReadsLines l.draft l.line-iterator.taken (lines_of l.line-iterator.rest.now) r c → ReadsLines l.initial.draft 0 (lines_of l.text) r c
