use Rattle.std.proofs.Common.{ap}
use Rattle.rigcobase.proofs.Fronts.{front_read}
use Rattle.rigcobase.proofs.answering.front.Goals as goal

pub returns : goal.returns
returns g c =
    front_read (g.R.Read.remaining c.args.reader) (g.R.Read.remaining c.take.result.inner) c.take.result.limit c.new-text.result.items c.read_to_end.new.buf.items
    (ap g.R.Read.remaining c.take.ensures.inner) c.take.ensures.limit c.new-text.ensures.items c.in_ok-read_to_end.ensures.bytes
