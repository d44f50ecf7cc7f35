use Rattle.std.proofs.Common.{◌≡◌, ℕ, ◌+◌, ◌/◌, ◌<◌, ◌≤◌, List, length, get_or, replicate, ap, ◌∙◌, arith, w8, lit<}
use lib.Lanes.{zip2}
use mir.Syntax.{w16, wrap_add, div, cast, unsigned}
use mir.Val.{Fits}
use borrow.Rule.Simd.Lanes.{act1, act2, Asks2}
use borrow.Table.Row.{s_int}
use Rattle.std.proofs.lemmas.List.{get_or-map}
use Rattle.std.proofs.lemmas.Simd.{length-zip2, get_or-zip2, get_or-replicate, Each1-from_get_or, Each1-all, Each2-splat}
use Rattle.fd_blend.proofs.vectors.converted.Goals as goal

abbrev plus : ℕ → ℕ → ℕ
plus = act2 wrap_add (s_int w16) (s_int w16) (s_int w16)

abbrev over : ℕ → ℕ → ℕ
over = act2 (div unsigned) (s_int w16) (s_int w16) (s_int w16)

abbrev narrow : ℕ → ℕ
narrow = act1 (cast unsigned unsigned w8) (s_int w16) (s_int w8)

abbrev quotients : List ℕ → List ℕ
quotients values = zip2 over (zip2 plus values (replicate 8 127)) (replicate 8 255)

length_is : (values : List ℕ) → length values ≡ 8 → length (quotients values) ≡ 8
length_is values long =
    let sums = length-zip2 plus values (replicate 8 127) long in
    length-zip2 over (zip2 plus values (replicate 8 127)) (replicate 8 255) (omega arith) ∙ omega arith

scalar : (n : ℕ) → n ≤ 65025 → over (plus n 127) 255 ≡ (n + 127) / 255
scalar n small = omega arith

quotient : (values : List ℕ) (k : ℕ) → length values ≡ 8 → k < 8 → get_or values k 0 ≤ 65025 → get_or (quotients values) k 0 ≡ (get_or values k 0 + 127) / 255
quotient values k long lt small =
    let sums = length-zip2 plus values (replicate 8 127) long in
    get_or-zip2 over (zip2 plus values (replicate 8 127)) (replicate 8 255) k 0 0 0 (omega arith) (omega arith)
    ∙ ap (over (get_or (zip2 plus values (replicate 8 127)) k 0)) (get_or-replicate 8 k 255 0 lt)
    ∙ ap (λ n. over n 255) (get_or-zip2 plus values (replicate 8 127) k 0 0 0 (omega arith) (omega arith)
    ∙ ap (plus (get_or values k 0)) (get_or-replicate 8 k 127 0 lt))
    ∙ scalar (get_or values k 0) small

fits : {n m : ℕ} → n ≡ (m + 127) / 255 → m ≤ 65025 → Fits w8 n
fits e small = record { fits = omega arith }

pub nonzero_div-result : goal.nonzero_div-result
nonzero_div-result c = Each2-splat (Asks2 (div unsigned) (s_int w16) (s_int w16)) _ 8 255 (Each1-all (λ x. Asks2 (div unsigned) (s_int w16) (s_int w16) x 255)
    (λ x. lit< tt) _)

pub overflow_cast-result : goal.overflow_cast-result
overflow_cast-result c = Each1-from_get_or _ (quotients c.args.values) 0
    (λ k lt. fits (quotient c.args.values k c.requires.len (omega (arith, length_is c.args.values c.requires.len))
    (c.requires.small k (omega (arith, length_is c.args.values c.requires.len))))
    (c.requires.small k (omega (arith, length_is c.args.values c.requires.len))))

pub returns-clause-elements : goal.returns-clause-elements
returns-clause-elements c = λ k lt.
    let long = length_is c.args.values c.requires.len in
    get_or-map narrow (quotients c.args.values) k 0 0 (omega arith) ∙ quotient c.args.values k c.requires.len lt (c.requires.small k lt)
