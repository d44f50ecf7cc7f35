use Rattle.std.proofs.Common.{◌+◌, ◌*◌, ◌∙◌, ap, sym, drop, get_or, arith}
use Rattle.std.specs.Str.Parse.{digits_value_after}
use Rattle.fd_words.proofs.Numbers.{digit_in, digit_range, value_more, value_bound, power_more}
use Rattle.fd_words.proofs.command.value.Goals as goal

pub overflow_mul-value : goal.overflow_mul-value
overflow_mul-value c =
    let small = value_bound c.loop-digit.value c.loop-digit.digit-index c.loop-digit.invariant.bound (omega (arith, c.requires.few, c.loop-digit-test.true)) in
    omega (arith, small)

pub loop-digit-preserved : goal.loop-digit-preserved
loop-digit-preserved c =
    let ds = c.args.digits.now in
    let i = c.loop-digit.digit-index in
    let v = c.loop-digit.value in
    let range = digit_range (get_or ds i 0) (digit_in ds i 0 c.requires.digits c.loop-digit-test.true) in
    record {
      bound = power_more i v c.from.result c.loop-digit.invariant.bound (omega (arith, c.from.ensures, range.1));
      value =
          ap (λ d. digits_value_after 10 (v * 10 + d) (drop (i + 1) ds)) c.from.ensures
          ∙ sym (value_more ds i v c.requires.digits c.loop-digit-test.true) ∙ c.loop-digit.invariant.value;
    }
