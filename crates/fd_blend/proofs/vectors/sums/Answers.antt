use Rattle.std.proofs.Common.{◌≡◌, ℕ, ◌+◌, ◌-◌, ◌<◌, min, List, length, map, get_or, replicate, ap, ◌∙◌, arith}
use lib.Lanes.{zip2}
use lib.ListN.{length-map}
use mir.Syntax.{w16, wrap_add, bit_not}
use borrow.Rule.Simd.Lanes.{act1, act2}
use borrow.Table.Row.{s_int}
use Rattle.std.proofs.lemmas.List.{get_or-map}
use Rattle.std.proofs.lemmas.Simd.{length-zip2, get_or-zip2, get_or-replicate, below_from_Fits, Each1-get_or}
use Rattle.fd_blend.proofs.VectorLemmas.{lesser, length-chosen, get_or-lesser}
use Rattle.fd_blend.proofs.vectors.sums.Goals as goal

abbrev plus : ℕ → ℕ → ℕ
plus = act2 wrap_add (s_int w16) (s_int w16) (s_int w16)

abbrev flipped : ℕ → ℕ
flipped = act1 bit_not (s_int w16) (s_int w16)

-- the sum as the vector has it: what is added is at most what is left up to the largest number
abbrev saturated : List ℕ → List ℕ → List ℕ
saturated a b = zip2 plus a (lesser b (map flipped a))

flipped_is : (a : ℕ) → a < 65536 → flipped a ≡ 65535 - a
flipped_is a h = omega arith

scalar : (a b : ℕ) → a < 65536 → b < 65536 → min (plus a (min b (flipped a))) 65025 ≡ min (a + b) 65025
scalar a b h k = omega (arith, flipped_is a h)

length-added : (a b : List ℕ) → length a ≡ 8 → length b ≡ 8 → length (lesser b (map flipped a)) ≡ 8
length-added a b la lb =
    let turned = length-map a flipped in
    length-chosen b (map flipped a) b (map flipped a) 8 lb (omega arith) lb (omega arith)

length-saturated : (a b : List ℕ) → length a ≡ 8 → length b ≡ 8 → length (saturated a b) ≡ 8
length-saturated a b la lb =
    let more = length-added a b la lb in
    length-zip2 plus a (lesser b (map flipped a)) (omega arith) ∙ la

saturated-element : (a b : List ℕ) (k : ℕ) → length a ≡ 8 → length b ≡ 8 → k < 8 → get_or (saturated a b) k 0
    ≡ plus (get_or a k 0) (min (get_or b k 0) (flipped (get_or a k 0)))
saturated-element a b k la lb lt =
    let more = length-added a b la lb in
    let turned = length-map a flipped in
    get_or-zip2 plus a (lesser b (map flipped a)) k 0 0 0 (omega arith) (omega arith)
    ∙ ap (plus (get_or a k 0)) (get_or-lesser b (map flipped a) 8 k lb (omega arith) lt ∙ ap (min (get_or b k 0)) (get_or-map flipped a k 0 0 (omega arith)))

pub returns-clause-len : goal.returns-clause-len
returns-clause-len c =
    let long = length-saturated c.args.a c.args.b c.requires.a c.requires.b in
    length-chosen (saturated c.args.a c.args.b) (replicate 8 65025) (saturated c.args.a c.args.b) (replicate 8 65025) 8 long (omega arith) long (omega arith)

pub returns-clause-elements : goal.returns-clause-elements
returns-clause-elements c = λ k lt.
    let long = length-saturated c.args.a c.args.b c.requires.a c.requires.b in
    let small_a : get_or c.args.a k 0 < 65536 = Each1-get_or (λ x. x < 65536) c.args.a k 0 (omega arith) (below_from_Fits w16 c.args.a c.fits-a.1) in
    let small_b : get_or c.args.b k 0 < 65536 = Each1-get_or (λ x. x < 65536) c.args.b k 0 (omega arith) (below_from_Fits w16 c.args.b c.fits-b.1) in
    get_or-lesser (saturated c.args.a c.args.b) (replicate 8 65025) 8 k long (omega arith) lt
    ∙ ap (min (get_or (saturated c.args.a c.args.b) k 0)) (get_or-replicate 8 k 65025 0 lt)
    ∙ ap (λ n. min n 65025) (saturated-element c.args.a c.args.b k c.requires.a c.requires.b lt)
    ∙ scalar (get_or c.args.a k 0) (get_or c.args.b k 0) small_a small_b
