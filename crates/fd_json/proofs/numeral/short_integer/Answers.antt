use Rattle.std.proofs.Common.{rules, arith, ◌≡◌, ◌==◌, ◌<◌, drop, true, false, ap, ◌∙◌}
use Rattle.std.specs.Prelude.{slice_index}
use Rattle.fast_float.specs.Text.{minus}
use Rattle.fd_json.proofs.Signs.{number_of-minus, number_of-plain, no_sign, rest}
use Rattle.fd_json.proofs.Plain.{number-digits, number-minus_digits, as_signed, as_negative}
use Rattle.fd_json.proofs.numeral.short_integer.Goals.{else-not-is_empty-via-then-not-is_empty+else-bytes-eq45, else-not-is_empty-via-else-not-is_empty}
use Rattle.fd_json.proofs.numeral.short_integer.Goals as goal

pub returns-else-size-eq0-clause-value : goal.returns-else-size-eq0-clause-value
returns-else-size-eq0-clause-value c =
    let sign : (slice_index c.args.text.now 0 == minus) ≡ true = search rules in
    let n = c.in_ok-size.size in
    let small = c.in_ok-size.ensures.small in
    let some : 0 < n = grind (arith, c.if-size-eq0.false) in
    let read = rw (rest c.as_bytes-bytes.result.now ∙ ap (drop 1) c.as_bytes-bytes.ensures.value) at c.in_ok-size.ensures.value in
    number_of-minus c.args.text.now sign ∙ number-minus_digits (drop 1 c.args.text.now) n read.0 read.1 small some ∙ as_negative n small some

pub returns-in_ok-size-2-clause-value : goal.returns-in_ok-size-2-clause-value
returns-in_ok-size-2-clause-value c =
    let sign : (slice_index c.args.text.now 0 == minus) ≡ false = elim c.else-not-is_empty.branch [
      | else-not-is_empty-via-then-not-is_empty+else-bytes-eq45 w ↦ search rules
      | else-not-is_empty-via-else-not-is_empty w ↦ no_sign c.args.text.now (grind arith)
    ] in
    let n = c.in_ok-size-2.size in
    let small = c.in_ok-size-2.ensures.small in
    let read = rw c.as_bytes-bytes.ensures.value at c.in_ok-size-2.ensures.value in
    number_of-plain c.args.text.now sign ∙ number-digits c.args.text.now n read.0 read.1 small ∙ as_signed n small
