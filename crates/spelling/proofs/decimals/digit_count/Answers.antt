use Rattle.std.proofs.Common.{length, ap, arith, lit<, rules}
use Rattle.std.proofs.lemmas.Fmt.{decimal_digit, length-decimal-le}
use Rattle.spelling.proofs.Bytes.{length_decimal_step}
use Rattle.spelling.proofs.decimals.digit_count.Goals as goal

pub overflow_add-count : goal.overflow_add-count
overflow_add-count c =
    let most = length-decimal-le 20 c.args.number (lit< tt) (omega arith) (omega arith) in
    search rules

pub loop-rest-preserved : goal.loop-rest-preserved
loop-rest-preserved c =
    let more = length_decimal_step c.loop-rest.rest (omega arith) (omega arith) in
    (omega arith, omega arith)

pub returns : goal.returns
returns c =
    let one = ap length (decimal_digit c.loop-rest.rest (omega arith)) in
    let most = length-decimal-le 20 c.args.number (lit< tt) (omega arith) (omega arith) in
    record { value = omega arith; bound = omega arith }
