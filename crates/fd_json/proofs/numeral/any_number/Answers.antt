use Rattle.std.proofs.Common.{rules, arith, ◌≡◌, ◌==◌, ℕ, List, drop, true, false, sym, ap, ◌∙◌}
use Rattle.std.specs.Prelude.{slice_index}
use Rattle.fast_float.specs.Text.{minus, scan}
use Rattle.serde_json.specs.Read.{number_from}
use Rattle.fd_json.proofs.Signs.{number_of-minus, number_of-plain, no_sign, rest}
use Rattle.fd_json.proofs.numeral.any_number.Goals.{else-not-is_empty-via-then-not-is_empty+else-bytes-eq45, else-not-is_empty-via-else-not-is_empty}
use Rattle.fd_json.proofs.numeral.any_number.Goals as goal

pub returns-then-bytes-eq45 : goal.returns-then-bytes-eq45
returns-then-bytes-eq45 c =
    let sign : (slice_index c.args.text.now 0 == minus) ≡ true = search rules in
    let scanned : c.scan.result ≡ scan (drop 1 c.args.text.now) = c.scan.ensures.parts ∙ ap scan (rest c.as_bytes-bytes.result.now)
    ∙ ap (λ (s : List ℕ). scan (drop 1 s)) c.as_bytes-bytes.ensures.value in
    c.signed.ensures ∙ ap (number_from true) scanned ∙ sym (number_of-minus c.args.text.now sign)

pub returns-else-not-is_empty : goal.returns-else-not-is_empty
returns-else-not-is_empty c =
    let sign : (slice_index c.args.text.now 0 == minus) ≡ false = elim c.else-not-is_empty.branch [
      | else-not-is_empty-via-then-not-is_empty+else-bytes-eq45 w ↦ search rules
      | else-not-is_empty-via-else-not-is_empty w ↦ no_sign c.args.text.now (grind arith)
    ] in
    let scanned : c.scan-else-not-is_empty.result ≡ scan c.args.text.now = cc in
    c.signed-else-not-is_empty.ensures ∙ ap (number_from false) scanned ∙ sym (number_of-plain c.args.text.now sign)
