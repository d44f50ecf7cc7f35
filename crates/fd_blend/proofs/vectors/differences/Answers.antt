use Rattle.std.proofs.Common.{◌≡◌, ℕ, ◌-◌, ◌<◌, max, get_or, ap, ◌∙◌, arith}
use mir.Syntax.{w16, wrap_sub}
use borrow.Rule.Simd.Lanes.{act2}
use borrow.Table.Row.{s_int}
use Rattle.std.proofs.lemmas.Simd.{length-zip2, get_or-zip2, below_from_Fits, Each1-get_or}
use Rattle.fd_blend.proofs.VectorLemmas.{greater, length-chosen, get_or-greater}
use Rattle.fd_blend.proofs.vectors.differences.Goals as goal

abbrev minus : ℕ → ℕ → ℕ
minus = act2 wrap_sub (s_int w16) (s_int w16) (s_int w16)

scalar : (a b : ℕ) → a < 65536 → b < 65536 → minus (max a b) b ≡ a - b
scalar a b h k = omega arith

pub returns-clause-len : goal.returns-clause-len
returns-clause-len c =
    let long = length-chosen c.args.a c.args.b c.args.b c.args.a 8 c.requires.a c.requires.b c.requires.b c.requires.a in
    length-zip2 minus (greater c.args.a c.args.b) c.args.b (omega arith) ∙ omega arith

pub returns-clause-elements : goal.returns-clause-elements
returns-clause-elements c = λ k lt.
    let long = length-chosen c.args.a c.args.b c.args.b c.args.a 8 c.requires.a c.requires.b c.requires.b c.requires.a in
    let small_a : get_or c.args.a k 0 < 65536 = Each1-get_or (λ x. x < 65536) c.args.a k 0 (omega arith) (below_from_Fits w16 c.args.a c.fits-a.1) in
    let small_b : get_or c.args.b k 0 < 65536 = Each1-get_or (λ x. x < 65536) c.args.b k 0 (omega arith) (below_from_Fits w16 c.args.b c.fits-b.1) in
    get_or-zip2 minus (greater c.args.a c.args.b) c.args.b k 0 0 0 (omega arith) (omega arith)
    ∙ ap (λ n. minus n (get_or c.args.b k 0)) (get_or-greater c.args.a c.args.b 8 k c.requires.a c.requires.b lt)
    ∙ scalar (get_or c.args.a k 0) (get_or c.args.b k 0) small_a small_b
