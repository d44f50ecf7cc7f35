use Rattle.std.proofs.Common.{◌≡◌, [], ◌∷◌, length, sym, ◌∙◌, arith}
use Rattle.std.proofs.lemmas.List.{take-append-le, take_all}
use Rattle.fd_capture.proofs.short_array.keep.Goals as goal

pub returns-else-not-is_full : goal.returns-else-not-is_full
returns-else-not-is_full g c =
    let xs = c.args.values.now.items in
    let five : length xs ≡ 5 = grind arith in
    sym (take-append-le 5 xs (c.args.value ∷ []) (omega (arith, five)) ∙ take_all 5 xs (omega (arith, five)))
