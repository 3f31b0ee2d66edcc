use Rattle.rigcobase.proofs.Fronts.{answered}
use Rattle.rigcobase.proofs.answering.answer.Goals as goal

pub returns : goal.returns
returns g c =
    answered (g.R.Read.remaining c.args.reader) c.in_ok-text.text.items c.as_slice.result.now c.new-printed.result.items c.print_text.new.out.items c.as_slice-2.result.now c.in_ok-answer.answer (g.W.Write.contents c.args.writer.now) (g.W.Write.contents c.write_all.new.self)
    c.as_slice.ensures.value c.new-printed.ensures.items c.as_slice-2.ensures.value c.in_ok-text.ensures c.in_ok-answer.ensures c.in_ok-write_all.ensures.bytes
