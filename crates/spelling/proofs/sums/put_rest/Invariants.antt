use Rattle.std.proofs.Common.{take, drop}
use Rattle.spelling.specs.Lines.{rest_text}
use Rattle.spelling.proofs.sums.put_rest.Given as goal

-- the terms so far are put, and the others go in
abbrev pub invariant-loop-term : goal.invariant-loop-term
invariant-loop-term g l = record {
  put : g.S.Sink.puts l.initial.sink (rest_text l.variables (take l.term-index l.terms)) l.sink;
  room : g.S.Sink.has_room l.sink (rest_text l.variables (drop l.term-index l.terms));
}
