use Rattle.std.proofs.Common.{[], ◌++◌, get_or, codes, decimal}
use Rattle.spelling.proofs.Rests.{numbers_first, numbers_more}
use Rattle.spelling.proofs.numbers.put_numbers.Goals as goal

pub loop-number-init : goal.loop-number-init
loop-number-init g c = record {
  put = g.met.S.Sink.puts_nothing _ (g.met.S.Sink.room_first _ [] _ c.requires);
  room = c.requires;
}

pub put_byte-requires : goal.put_byte-requires
put_byte-requires g c =
    let room = rw (numbers_first c.args.numbers.now c.loop-number.number-index c.loop-number-test.true) at c.loop-number.invariant.room in
    g.met.S.Sink.room_first _ (codes " ") _ room

pub put_number-requires : goal.put_number-requires
put_number-requires g c =
    let text = decimal (get_or c.args.numbers.now c.loop-number.number-index 0) in
    let room = rw (numbers_first c.args.numbers.now c.loop-number.number-index c.loop-number-test.true) at c.loop-number.invariant.room in
    g.met.S.Sink.room_first _ text _ (g.met.S.Sink.room_second _ _ (codes " ") _ c.put_byte.ensures room)

pub loop-number-preserved : goal.loop-number-preserved
loop-number-preserved g c =
    let text = decimal (get_or c.args.numbers.now c.loop-number.number-index 0) in
    let room = rw (numbers_first c.args.numbers.now c.loop-number.number-index c.loop-number-test.true) at c.loop-number.invariant.room in
    let both = g.met.S.Sink.puts_both _ _ _ (codes " ") text c.put_byte.ensures c.put_number.ensures in
    record {
      put = rw (numbers_more c.args.numbers.now c.loop-number.number-index c.loop-number-test.true) (g.met.S.Sink.puts_both _ _ _ _ (codes " " ++ text) c.loop-number.invariant.put both);
      room = g.met.S.Sink.room_second _ _ text _ c.put_number.ensures (g.met.S.Sink.room_second _ _ (codes " ") _ c.put_byte.ensures room);
    }
