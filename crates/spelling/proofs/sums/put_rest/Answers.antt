use Rattle.std.proofs.Common.{[], ◌++◌, get_or, codes}
use Rattle.spelling.specs.Lines.{term_text}
use Rattle.spelling.proofs.Rests.{nothing, rest_first, rest_more}
use Rattle.spelling.proofs.sums.put_rest.Goals as goal

pub loop-term-init : goal.loop-term-init
loop-term-init g c = record {
  put = g.met.S.Sink.puts_nothing _ (g.met.S.Sink.room_first _ [] _ c.requires);
  room = c.requires;
}

pub put_byte-requires : goal.put_byte-requires
put_byte-requires g c =
    let room = rw (rest_first c.args.variables c.args.terms.now c.loop-term.term-index c.loop-term-test.true) at c.loop-term.invariant.room in
    g.met.S.Sink.room_first _ (codes " ") _ room

pub put_term-requires : goal.put_term-requires
put_term-requires g c =
    let text = term_text c.args.variables (get_or c.args.terms.now c.loop-term.term-index nothing) in
    let room = rw (rest_first c.args.variables c.args.terms.now c.loop-term.term-index c.loop-term-test.true) at c.loop-term.invariant.room in
    g.met.S.Sink.room_first _ text _ (g.met.S.Sink.room_second _ _ (codes " ") _ c.put_byte.ensures room)

pub loop-term-preserved : goal.loop-term-preserved
loop-term-preserved g c =
    let text = term_text c.args.variables (get_or c.args.terms.now c.loop-term.term-index nothing) in
    let room = rw (rest_first c.args.variables c.args.terms.now c.loop-term.term-index c.loop-term-test.true) at c.loop-term.invariant.room in
    let both = g.met.S.Sink.puts_both _ _ _ (codes " ") text c.put_byte.ensures c.put_term.ensures in
    record {
      put = rw (rest_more c.args.variables c.args.terms.now c.loop-term.term-index c.loop-term-test.true) (g.met.S.Sink.puts_both _ _ _ _ (codes " " ++ text) c.loop-term.invariant.put both);
      room = g.met.S.Sink.room_second _ _ text _ c.put_term.ensures (g.met.S.Sink.room_second _ _ (codes " ") _ c.put_byte.ensures room);
    }
