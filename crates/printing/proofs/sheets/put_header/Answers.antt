use Rattle.std.proofs.Common.{◌≡◌, ◌≤◌, is_ok, length, ap, arith}
use Rattle.std.proofs.lemmas.Grind.{common_steps}
use Rattle.spelling.specs.Headers.{header_text}
use Rattle.printing.proofs.Putting.{text_front, header_short}
use Rattle.printing.proofs.sheets.put_header.Goals as goal

pub unwrap-end-requires : goal.unwrap-end-requires
unwrap-end-requires c =
    let fits : length (header_text c.args.equations) ≤ length c.args.buffer.now = omega (arith, header_short c.args.equations) in
    let p = text_front (header_text c.args.equations) c.args.buffer.now c.write_header.new.buffer c.write_header.result fits c.write_header.ensures.answer c.write_header.ensures.buffer in
    ap is_ok p.done

pub returns : goal.returns
returns c =
    let fits : length (header_text c.args.equations) ≤ length c.args.buffer.now = omega (arith, header_short c.args.equations) in
    let p = text_front (header_text c.args.equations) c.args.buffer.now c.write_header.new.buffer c.write_header.result fits c.write_header.ensures.answer c.write_header.ensures.buffer in
    let e : c.unwrap-end.result ≡ length (header_text c.args.equations) = cc (p.done, c.unwrap-end.ensures) in
    grind (arith, common_steps, p.bytes, e)
