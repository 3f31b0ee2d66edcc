use Rattle.std.proofs.Common.{ℕ, ◌+◌, ◌/◌, ◌%◌, ◌<◌, List, [], ◌∷◌, ◌++◌, length, decimal, sym, ap, ◌∙◌, arith}
use Rattle.std.proofs.lemmas.Fmt.{decimal_digit, decimal_step, decimal_nonempty}
use Rattle.std.proofs.lemmas.List.{append-nil, append_assoc, length-append}
use Rattle.spelling.proofs.Bytes.{length_decimal_step, put_none, put_front, put_same}
use Rattle.spelling.proofs.decimals.put_decimal.Goals as goal

pub loop-rest-init : goal.loop-rest-init
loop-rest-init c = ([], append-nil (decimal c.args.number), omega (arith, c.digit_count.ensures.value), omega arith, put_none _ _)

pub overflow_sub-place : goal.overflow_sub-place
overflow_sub-place c = omega (arith, c.loop-rest.invariant.2, decimal_nonempty c.loop-rest.rest (omega arith))

-- the place before is in the buffer
pub bounds-buffer-place : goal.bounds-buffer-place
bounds-buffer-place c =
    let whole = sym (length-append (decimal c.loop-rest.rest) c.loop-rest.invariant.0) ∙ ap length c.loop-rest.invariant.1 in
    let some = decimal_nonempty c.loop-rest.rest (omega arith) in
    omega arith

pub loop-rest-preserved : goal.loop-rest-preserved
loop-rest-preserved c =
    let n = c.loop-rest.rest in
    let behind = c.loop-rest.invariant.0 in
    let small : n < 18446744073709551616 = omega arith in
    let digit = 48 + n % 10 in
    let step = decimal_step n c.loop-rest-test.true small in
    let more = length_decimal_step n c.loop-rest-test.true small in
    let whole = sym (length-append (decimal n) behind) ∙ ap length c.loop-rest.invariant.1 in (
      digit ∷ behind,
      sym (append_assoc (decimal (n / 10)) (digit ∷ []) behind) ∙ ap (λ (xs : List ℕ). xs ++ behind) (sym step) ∙ c.loop-rest.invariant.1,
      omega arith,
      omega arith,
      put_front _ behind c.loop-rest.buffer _ c.loop-rest.place _ digit (omega arith) (omega arith) c.loop-rest.invariant.4,
    )

pub bounds-buffer-at : goal.bounds-buffer-at
bounds-buffer-at c = omega (arith, decimal_nonempty c.args.number (omega arith))

pub returns : goal.returns
returns c =
    let n = c.loop-rest.rest in
    let behind = c.loop-rest.invariant.0 in
    let one = decimal_digit n (omega arith) in
    let long = ap length one in
    put_same (ap (λ (xs : List ℕ). xs ++ behind) (sym one) ∙ c.loop-rest.invariant.1)
    (put_front _ behind c.loop-rest.buffer c.args.at c.loop-rest.place _ (48 + n) (omega arith) (omega (arith, decimal_nonempty c.args.number (omega arith))) c.loop-rest.invariant.4)
