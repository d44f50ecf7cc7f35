use Rattle.std.proofs.Common.{◌≡◌, ℕ, ◌/◌, ◌<◌, ◌^◌, List, length, get_or, replicate, ap, ◌∙◌, arith, w8, w32}
use lib.Lanes.{zip2, Each1}
use mir.Syntax.{shr, cast, unsigned}
use mir.Val.{Fits}
use borrow.Rule.Simd.Lanes.{act1, act2}
use borrow.Table.Row.{s_int}
use Rattle.std.proofs.lemmas.List.{get_or-map}
use Rattle.std.proofs.lemmas.Simd.{length-zip2, get_or-zip2, get_or-replicate, Each1-from_get_or, Each1-get_or, below_from_Fits}
use Rattle.fd_cover.proofs.vectors.tops.Goals as goal

abbrev down : ℕ → ℕ → ℕ
down = act2 (shr unsigned) (s_int w32) (s_int w32) (s_int w32)

abbrev narrow : ℕ → ℕ
narrow = act1 (cast unsigned unsigned w8) (s_int w32) (s_int w8)

abbrev shifted : List ℕ → List ℕ
shifted words = zip2 down words (replicate 8 24)

length-shifted : (words : List ℕ) → length words ≡ 8 → length (shifted words) ≡ 8
length-shifted words long = length-zip2 down words (replicate 8 24) long ∙ long

shifted-element : (words : List ℕ) (k : ℕ) → length words ≡ 8 → k < 8 → get_or (shifted words) k 0 ≡ get_or words k 0 / 2 ^ 24
shifted-element words k long lt =
    get_or-zip2 down words (replicate 8 24) k 0 0 0 (omega arith) (omega arith)
    ∙ ap (down (get_or words k 0)) (get_or-replicate 8 k 24 0 lt)

below : (words : List ℕ) (k : ℕ) → length words ≡ 8 → Each1 (Fits w32) words → k < 8 → get_or words k 0 < 2 ^ 32
below words k long fits lt = Each1-get_or (λ x. x < 2 ^ 32) words k 0 (omega arith) (below_from_Fits w32 words fits)

byte : (n m : ℕ) → n ≡ m / 2 ^ 24 → m < 2 ^ 32 → Fits w8 n
byte n m e h = record { fits = omega arith }

pub overflow_cast-result : goal.overflow_cast-result
overflow_cast-result c = Each1-from_get_or _ (shifted c.args.words) 0 (λ k lt.
    let small : k < 8 = omega (arith, length-shifted c.args.words c.requires, lt) in
    byte _ _ (shifted-element c.args.words k c.requires small) (below c.args.words k c.requires c.fits-words.1 small))

pub returns-clause-elements : goal.returns-clause-elements
returns-clause-elements c = λ k lt.
    get_or-map narrow (shifted c.args.words) k 0 0 (omega arith) ∙ shifted-element c.args.words k c.requires lt
