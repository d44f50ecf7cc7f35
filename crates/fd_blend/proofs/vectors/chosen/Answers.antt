use Rattle.std.proofs.Common.{false, cond, eqb, length, get_or, replicate, ap, ◌∙◌, arith, w8}
use lib.Lanes.{zip2, sel_l}
use Rattle.std.proofs.lemmas.Simd.{tops_compared, length-zip2, length-sel_l, get_or-sel_l, get_or-zip2, get_or-replicate}
use Rattle.fd_blend.proofs.vectors.chosen.Goals as goal

pub returns-clause-len : goal.returns-clause-len
returns-clause-len c =
    let zeros = replicate 8 0 in
    let long = length-zip2 eqb c.args.mask zeros c.requires.mask in
    ap (λ ms. length (sel_l ms c.args.no c.args.yes)) (tops_compared w8 eqb c.args.mask zeros)
    ∙ length-sel_l (zip2 eqb c.args.mask zeros) c.args.no c.args.yes (omega arith) (omega arith)
    ∙ omega arith

pub returns-clause-elements : goal.returns-clause-elements
returns-clause-elements c = λ k lt.
    let zeros = replicate 8 0 in
    let long = length-zip2 eqb c.args.mask zeros c.requires.mask in
    ap (λ ms. get_or (sel_l ms c.args.no c.args.yes) k 0) (tops_compared w8 eqb c.args.mask zeros)
    ∙ get_or-sel_l (zip2 eqb c.args.mask zeros) c.args.no c.args.yes k 0 (omega arith) (omega arith) (omega arith)
    ∙ ap (λ t. cond t (get_or c.args.no k 0) (get_or c.args.yes k 0)) (get_or-zip2 eqb c.args.mask zeros k 0 0 false (omega arith) (omega arith)
    ∙ ap (eqb (get_or c.args.mask k 0)) (get_or-replicate 8 k 0 0 lt))
