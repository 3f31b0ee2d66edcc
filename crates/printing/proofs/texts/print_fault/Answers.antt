use Rattle.std.proofs.Common.{◌≡◌, is_ok, length, replicate, ap, arith}
use Rattle.std.proofs.lemmas.Grind.{common_steps}
use Rattle.sheet_reader.specs.Faults.{fault_line, most_fault_bytes}
use Rattle.printing.proofs.Putting.{text_front}
use Rattle.printing.proofs.texts.print_fault.Goals as goal

pub unwrap-end-requires : goal.unwrap-end-requires
unwrap-end-requires c =
    let p = text_front (fault_line c.args.fault) (replicate most_fault_bytes 0) c.write_fault.new.buffer c.write_fault.result c.write_fault.ensures.short c.write_fault.ensures.answer c.write_fault.ensures.buffer in
    ap is_ok p.done

pub returns : goal.returns
returns c =
    let p = text_front (fault_line c.args.fault) (replicate most_fault_bytes 0) c.write_fault.new.buffer c.write_fault.result c.write_fault.ensures.short c.write_fault.ensures.answer c.write_fault.ensures.buffer in
    let e : c.unwrap-end.result ≡ length (fault_line c.args.fault) = cc (p.done, c.unwrap-end.ensures) in
    grind (arith, common_steps, p.bytes, e)
