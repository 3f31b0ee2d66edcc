use Rattle.std.proofs.Common.{take, drop}
use Rattle.spelling.specs.Numbers.{numbers_text}
use Rattle.spelling.proofs.numbers.put_numbers.Given as goal

-- the numbers so far are put, and the others go in
abbrev pub invariant-loop-number : goal.invariant-loop-number
invariant-loop-number g l = record {
  put : g.S.Sink.puts l.initial.sink (numbers_text (take l.number-index l.numbers)) l.sink;
  room : g.S.Sink.has_room l.sink (numbers_text (drop l.number-index l.numbers));
}
