use Rattle.std.proofs.Common.{◌+◌, ◌*◌, ◌∷◌, ap, ◌∙◌}
use Rattle.fd_blend.proofs.PackingLemmas.{colour_first}
use Rattle.fd_blend.proofs.packing.pair_bytes.Goals as goal

pub returns : goal.returns
returns c =
    let d = c.args.d in
    let one = c.word_of.ensures in
    let two = c.word_of-2.ensures in
    colour_first 4 d c.word_of.result (c.word_of-2.result + 4294967296 * 0) one.value one.r one.g one.b one.a
    ∙ ap (λ l. d.r ∷ d.g ∷ d.b ∷ d.a ∷ l) (colour_first 0 c.args.e c.word_of-2.result 0 two.value two.r two.g two.b two.a)
