-- Four elements of 64 bits as eight of 32.
use Rattle.std.proofs.Common.{◌≡◌, ℕ, zero, suc, ◌+◌, ◌*◌, ◌/◌, ◌%◌, ◌^◌, ◌<◌, div-add-mod', div-lt_iff_lt-mul, List, [], ◌∷◌, ap, ◌∙◌, arith, pow-suc}
use lib.Lanes.{number_l, digits_l}

-- a number is that of its digits
number_of_digits : (p n x : ℕ) → 0 < p → x < p ^ n → number_l p (digits_l p n x) ≡ x
number_of_digits p zero x some h = omega (arith, native.Mathlib.Nat.pow-zero p)
number_of_digits p (suc n) x some h =
    let less : x / p < p ^ n = (div-lt_iff_lt-mul some).1 (rw (← pow-suc p n) h) in
    rw (number_of_digits p n (x / p) some less) (omega (arith, div-add-mod' x p))

-- the halves of the lowest element
lowest : (n a x : ℕ) → a < 2 ^ 64 → digits_l (2 ^ 32) (suc (suc n)) (a + 2 ^ 64 * x) ≡ a % 2 ^ 32 ∷ a / 2 ^ 32 ∷ digits_l (2 ^ 32) n x
lowest n a x h =
    let low : (a + 2 ^ 64 * x) % 2 ^ 32 ≡ a % 2 ^ 32 = omega arith in
    let high : (a + 2 ^ 64 * x) / 2 ^ 32 % 2 ^ 32 ≡ a / 2 ^ 32 = omega (arith, h) in
    let rest : (a + 2 ^ 64 * x) / 2 ^ 32 / 2 ^ 32 ≡ x = omega (arith, h) in
    λ i. low i ∷ high i ∷ digits_l (2 ^ 32) n (rest i)

-- each element's lower half stands before its upper one
pub halves : (a b c d : ℕ) → a < 2 ^ 64 → b < 2 ^ 64 → c < 2 ^ 64 → d < 2 ^ 64
    → digits_l (2 ^ 32) 8 (number_l 256 (digits_l 256 32 (number_l (2 ^ 64) (a ∷ b ∷ c ∷ d ∷ []))))
    ≡ a % 2 ^ 32 ∷ a / 2 ^ 32 ∷ b % 2 ^ 32 ∷ b / 2 ^ 32 ∷ c % 2 ^ 32 ∷ c / 2 ^ 32 ∷ d % 2 ^ 32 ∷ d / 2 ^ 32 ∷ []
halves a b c d a_fits b_fits c_fits d_fits =
    let x = a + 2 ^ 64 * (b + 2 ^ 64 * (c + 2 ^ 64 * (d + 2 ^ 64 * 0))) in
    ap (digits_l (2 ^ 32) 8) (number_of_digits 256 32 x (omega arith) (omega (arith, a_fits, b_fits, c_fits, d_fits)))
    ∙ lowest 6 a _ a_fits
    ∙ ap (λ (l : List ℕ). a % 2 ^ 32 ∷ a / 2 ^ 32 ∷ l) (lowest 4 b _ b_fits
    ∙ ap (λ (l : List ℕ). b % 2 ^ 32 ∷ b / 2 ^ 32 ∷ l) (lowest 2 c _ c_fits
    ∙ ap (λ (l : List ℕ). c % 2 ^ 32 ∷ c / 2 ^ 32 ∷ l) (lowest 0 d 0 d_fits)))
