use Rattle.std.proofs.Common.{◌++◌, codes}
use Rattle.spelling.specs.Numbers.{numbers_text}
use Rattle.spelling.proofs.numbers.NumbersText.put_into.Goals as goal

pub put-requires : goal.put-requires
put-requires g c = g.met.S.Sink.room_first c.args.sink.now c.args.self.now.word.now _ c.requires

pub put_numbers-requires : goal.put_numbers-requires
put_numbers-requires g c =
    let word = c.args.self.now.word.now in
    let ns = c.args.self.now.numbers.now in
    let room = g.met.S.Sink.room_second c.args.sink.now _ word (numbers_text ns ++ codes "\n") c.put.ensures c.requires in
    g.met.S.Sink.room_first _ (numbers_text ns) (codes "\n") room

pub put-requires-2 : goal.put-requires-2
put-requires-2 g c =
    let word = c.args.self.now.word.now in
    let ns = c.args.self.now.numbers.now in
    let room = g.met.S.Sink.room_second c.args.sink.now _ word (numbers_text ns ++ codes "\n") c.put.ensures c.requires in
    g.met.S.Sink.room_second _ _ (numbers_text ns) (codes "\n") c.put_numbers.ensures room

pub returns : goal.returns
returns g c =
    let word = c.args.self.now.word.now in
    let ns = c.args.self.now.numbers.now in
    let back = g.met.S.Sink.puts_both _ _ _ (numbers_text ns) (codes "\n") c.put_numbers.ensures c.put-2.ensures in
    g.met.S.Sink.puts_both _ _ _ word _ c.put.ensures back
