use Rattle.std.proofs.Common.{◌≡◌, get_or, refl, Bool, true, false, cond, leb, ap, ◌∙◌, arith, w8}
use lib.Bits.{bit_xor}
use lib.Dec.{T}
use borrow.Rule.Simd.Moves.{swz_l}
use Rattle.std.proofs.lemmas.Simd.{SwzOk-from_Each1, Each1-from_get_or, length-zip2, length-swz_l, get_or-swz_l, get_or-zip2}
use Rattle.fd_blend.proofs.vectors.factors.Goals as goal

truth : {b : Bool} → b ≡ true → T b
truth {b = true} e = tt
truth {b = false} e = absurd (cc)

pub swizzle : goal.swizzle
swizzle c = SwzOk-from_Each1 w8 16 1 16 0 c.args.positions refl (omega arith)
    (Each1-from_get_or _ c.args.positions 0 (λ i lt. truth (c.requires.inside i (omega arith))))

pub returns-clause-len : goal.returns-clause-len
returns-clause-len c =
    let long = length-swz_l w8 16 c.args.bytes 0 c.args.positions in
    length-zip2 bit_xor (swz_l w8 16 c.args.bytes 0 c.args.positions) c.args.flips (omega arith) ∙ omega arith

pub returns-clause-elements : goal.returns-clause-elements
returns-clause-elements c = λ k lt.
    let long = length-swz_l w8 16 c.args.bytes 0 c.args.positions in
    get_or-zip2 bit_xor (swz_l w8 16 c.args.bytes 0 c.args.positions) c.args.flips k 0 0 0 (omega arith) (omega arith)
    ∙ ap (λ n. bit_xor n (get_or c.args.flips k 0)) (get_or-swz_l w8 16 c.args.bytes 0 c.args.positions k (omega arith)
    ∙ ap (λ j. cond (leb 128 (get_or c.args.positions k 0)) 0 (get_or c.args.bytes j 0)) (omega arith))
