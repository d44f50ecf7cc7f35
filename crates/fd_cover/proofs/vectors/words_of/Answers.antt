use Rattle.std.proofs.Common.{◌≡◌, ℕ, zero, suc, ◌+◌, ◌*◌, ◌/◌, ◌^◌, ◌<◌, List, [], ◌∷◌, length, get_or, ap, arith, w64}
use lib.Lanes.{number_l, digits_l, Each1}
use Rattle.std.proofs.lemmas.Simd.{below_from_Fits}
use Rattle.fd_cover.proofs.Words.{halves}
use Rattle.fd_cover.proofs.vectors.words_of.Goals as goal

abbrev words : List ℕ → List ℕ
words elements = digits_l (2 ^ 32) 8 (number_l 256 (digits_l 256 32 (number_l (2 ^ 64) elements)))

upper : (elements : List ℕ) → length elements ≡ 4 → Each1 (λ x. x < 2 ^ 64) elements → (k : ℕ) → k < 4
    → get_or (words elements) (2 * k + 1) 0 ≡ get_or elements k 0 / 2 ^ 32
upper (a ∷ b ∷ c ∷ d ∷ []) long (fa, (fb, (fc, (fd, _)))) zero lt = ap (λ (l : List ℕ). get_or l 1 0) (halves a b c d fa fb fc fd)
upper (a ∷ b ∷ c ∷ d ∷ []) long (fa, (fb, (fc, (fd, _)))) (suc zero) lt = ap (λ (l : List ℕ). get_or l 3 0) (halves a b c d fa fb fc fd)
upper (a ∷ b ∷ c ∷ d ∷ []) long (fa, (fb, (fc, (fd, _)))) (suc (suc zero)) lt = ap (λ (l : List ℕ). get_or l 5 0) (halves a b c d fa fb fc fd)
upper (a ∷ b ∷ c ∷ d ∷ []) long (fa, (fb, (fc, (fd, _)))) (suc (suc (suc zero))) lt = ap (λ (l : List ℕ). get_or l 7 0) (halves a b c d fa fb fc fd)
upper elements long fits (suc (suc (suc (suc k)))) lt = absurd (omega (arith, lt))
upper [] long fits k lt = absurd (omega (arith, long))
upper (a ∷ []) long fits k lt = absurd (omega (arith, long))
upper (a ∷ b ∷ []) long fits k lt = absurd (omega (arith, long))
upper (a ∷ b ∷ c ∷ []) long fits k lt = absurd (omega (arith, long))
upper (a ∷ b ∷ c ∷ d ∷ e ∷ rest) long fits k lt = absurd (omega (arith, long))

pub returns-clause-upper : goal.returns-clause-upper
returns-clause-upper c = λ k lt. upper c.args.elements c.requires (below_from_Fits w64 c.args.elements c.fits-elements.1) k lt
