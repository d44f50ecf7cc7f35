use Rattle.std.proofs.Common.{◌≡◌, ℕ, ◌*◌, ◌<◌, ◌≤◌, List, length, map, get_or, ap, ◌∙◌, arith, w8, mul-le-mul}
use lib.Lanes.{zip2, Each1}
use lib.ListN.{length-map}
use mir.Syntax.{w16, wrap_mul, cast, unsigned}
use mir.Val.{Fits}
use borrow.Rule.Simd.Lanes.{act1, act2}
use borrow.Table.Row.{s_int}
use Rattle.std.proofs.lemmas.List.{get_or-map}
use Rattle.std.proofs.lemmas.Simd.{length-zip2, get_or-zip2, Each1-get_or, below_from_Fits}
use Rattle.fd_blend.proofs.vectors.weighted.Goals as goal

abbrev wide : List ℕ → List ℕ
wide xs = map (act1 (cast unsigned unsigned w16) (s_int w8) (s_int w16)) xs

abbrev times : ℕ → ℕ → ℕ
times = act2 wrap_mul (s_int w16) (s_int w16) (s_int w16)

product_bound : (a b : ℕ) → a < 256 → b < 256 → a * b ≤ 65025
product_bound a b h k = mul-le-mul {n₂ = 255} {m₂ = 255} (omega arith) (omega arith)

no_wrap : (a b : ℕ) → a < 256 → b < 256 → times a b ≡ a * b
no_wrap a b h k = omega (arith, product_bound a b h k)

byte_at : (xs : List ℕ) (k : ℕ) → length xs ≡ 8 → Each1 (Fits w8) xs → k < 8 → get_or xs k 0 < 256
byte_at xs k long fits lt = Each1-get_or (λ x. x < 256) xs k 0 (omega arith) (below_from_Fits w8 xs fits)

element : (xs ys : List ℕ) (k : ℕ) → length xs ≡ 8 → length ys ≡ 8 → Each1 (Fits w8) xs → get_or ys k 0 < 256 → k < 8
    → get_or (zip2 times (wide xs) ys) k 0 ≡ get_or xs k 0 * get_or ys k 0
element xs ys k lx ly fx byte lt =
    let one = length-map xs (act1 (cast unsigned unsigned w16) (s_int w8) (s_int w16)) in
    let left : get_or (wide xs) k 0 ≡ get_or xs k 0 = get_or-map (act1 (cast unsigned unsigned w16) (s_int w8) (s_int w16)) xs k 0 0 (omega arith) in
    get_or-zip2 times (wide xs) ys k 0 0 0 (omega arith) (omega arith)
    ∙ ap (λ n. times n (get_or ys k 0)) left
    ∙ no_wrap (get_or xs k 0) (get_or ys k 0) (byte_at xs k lx fx lt) byte

pub returns-clause-len : goal.returns-clause-len
returns-clause-len c =
    let one = length-map c.args.bytes (act1 (cast unsigned unsigned w16) (s_int w8) (s_int w16)) in
    length-zip2 times (wide c.args.bytes) c.args.factors (omega arith) ∙ omega arith

pub returns-clause-elements : goal.returns-clause-elements
returns-clause-elements c = λ k lt. element c.args.bytes c.args.factors k c.requires.bytes c.requires.factors c.fits-bytes.1 (c.requires.few k lt) lt
