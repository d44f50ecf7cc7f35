use Rattle.std.proofs.Common.{take, get_or, arith}
use Rattle.std.proofs.lemmas.Int.Digits.{digits_more, digits_value_more}
use Rattle.std.proofs.lemmas.List.{length-take-le}
use Rattle.fd_json.proofs.Plain.{digit_is, few_digits}
use Rattle.fd_json.proofs.numeral.digits.Goals as goal

pub overflow_mul-value : goal.overflow_mul-value
overflow_mul-value c =
    let l = c.loop-i in
    let small = few_digits (take l.i c.args.bytes.now) 17 l.invariant.0
    (omega (arith, length-take-le l.i c.args.bytes.now (omega (arith, c.loop-i-test.true)), c.loop-i-test.true, c.if-bytes-gt-PLAIN_DIGITS.false)) in
    omega (arith, small, l.invariant.1)

pub overflow_add-value : goal.overflow_add-value
overflow_add-value c =
    let l = c.loop-i in
    let small = few_digits (take l.i c.args.bytes.now) 17 l.invariant.0
    (omega (arith, length-take-le l.i c.args.bytes.now (omega (arith, c.loop-i-test.true)), c.loop-i-test.true, c.if-bytes-gt-PLAIN_DIGITS.false)) in
    omega (arith, small, l.invariant.1, c.from.ensures, c.if-digit-gt9.false)

pub loop-i-preserved : goal.loop-i-preserved
loop-i-preserved c =
    let l = c.loop-i in
    let digit = digit_is (get_or c.args.bytes.now l.i 0) (omega (arith, c.type_inv.bytes l.i)) c.if-digit-gt9.false in (
      digits_more 10 c.args.bytes.now l.i c.loop-i-test.true l.invariant.0 (omega (arith, digit, c.if-digit-gt9.false)),
      omega (arith, digits_value_more 10 c.args.bytes.now l.i c.loop-i-test.true, digit, c.from.ensures, l.invariant.1),
    )

pub returns-clause-small : goal.returns-clause-small
returns-clause-small c =
    let l = c.loop-i in
    let small = few_digits (take l.i c.args.bytes.now) 18 l.invariant.0
    (omega (arith, length-take-le l.i c.args.bytes.now (omega (arith, l.auto.i-end)), l.auto.i-end, c.if-bytes-gt-PLAIN_DIGITS.false)) in
    omega (arith, small, l.invariant.1)
