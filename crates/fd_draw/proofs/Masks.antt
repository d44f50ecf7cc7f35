-- A row's pixels that pass, by the bits of a number.
use Rattle.std.proofs.Common.{◌≡◌, ℕ, zero, suc, ◌/◌, ◌%◌, ◌^◌, ◌<◌, ◌≤◌, Bool, true, false, cond, eqb, List, length, map, get_or, refl, sym, ap, ◌∙◌}
use Rattle.std.proofs.Common.{arith, ◌+◌, ◌-◌, ◌*◌, ◌&&◌, min, bit_and}
use Rattle.std.proofs.lemmas.Nat.Bits.{bit_at_and, bit_at-lt, bit_at-suc, bit_at_ones, bit_at_lowest, bit_at-trailing_zeros, bit_at-trailing_ones}
use lib.Lanes.{zip2, top, mask_l}
use mir.Syntax.{w16, w64}
use Rattle.std.specs.Int.{trailing_zeros, trailing_ones, bit_at}
use Rattle.std.proofs.lemmas.Nat.{pow-add}
use Rattle.std.proofs.lemmas.Simd.{length-zip2, get_or-zip2, tops_compared, mask_l-lt, mask_l-mod, bit_mask_l}
use Rattle.fd_draw.specs.Mask.{has_bit}

is_one : (b : Bool) → eqb (cond b 1 0) 1 ≡ b
is_one true = refl
is_one false = refl

-- the lanes of which a comparison holds, as `to_bitmask` has them
module _ (t : ℕ → ℕ → Bool) (xs ys : List ℕ) (long : length xs ≡ 32) (as_long : length ys ≡ 32) where
  abbrev pub lanes : ℕ
  lanes = mask_l (map (top 15) (zip2 (λ a b. cond (t a b) 65535 0) xs ys)) % 18446744073709551616

  size : length (zip2 t xs ys) ≡ 32
  size = length-zip2 t xs ys (long ∙ sym as_long) ∙ long

  pub lanes_are : lanes ≡ mask_l (zip2 t xs ys)
  lanes_are = ap (λ ms. mask_l ms % 18446744073709551616) (tops_compared w16 t xs ys) ∙ mask_l-mod (zip2 t xs ys) 64 (omega (arith, size))

  pub lane_set : (k : ℕ) → k < 32 → has_bit lanes k ≡ t (get_or xs k 0) (get_or ys k 0)
  lane_set k low = grind (arith, get_or-zip2, lanes_are, bit_mask_l, is_one)

  pub lanes_bound : lanes < 2 ^ 32
  lanes_bound = rw lanes_are (rw size at (mask_l-lt (zip2 t xs ys)))

-- all of 32 bits
pub ones_set : (k : ℕ) → k < 32 → has_bit 4294967295 k ≡ true
ones_set k low = ap (λ n. eqb n 1) (bit_at_ones 32 k low)

-- the lowest bit is that of the remainder by 2
pub lowest_set : (n : ℕ) → has_bit n 0 ≡ eqb (n % 2) 1
lowest_set n = ap (λ m. eqb m 1) (bit_at_lowest n)

-- the run of equal bits that begins with the lowest
module _ (n : ℕ) (small : n < 2 ^ 32) where
  run_some : (k : ℕ) → (bit_at n k ≡ n % 2 → ⊥) → 1 ≤ k
  run_some zero apart = absurd (apart (bit_at_lowest n))
  run_some (suc k) apart = omega arith

  pub ones_some : n % 2 ≡ 1 → 1 ≤ trailing_ones w64 n
  ones_some odd = run_some (trailing_ones w64 n) (λ same. absurd (omega (arith, same, (bit_at-trailing_ones w64 n (omega arith)).1)))

  pub zeros_some : 0 < n → n % 2 ≡ 0 → 1 ≤ trailing_zeros w64 n
  zeros_some some even = run_some (trailing_zeros w64 n) (λ same. absurd (omega (arith, same, (bit_at-trailing_zeros w64 n some (omega arith)).1)))

  pub ones_alike : n % 2 ≡ 1 → (k : ℕ) → k < trailing_ones w64 n → has_bit n k ≡ has_bit n 0
  ones_alike odd k low = ap (λ m. eqb m 1) ((bit_at-trailing_ones w64 n (omega arith)).2 k low ∙ sym (bit_at_lowest n ∙ odd))

  pub zeros_alike : 0 < n → n % 2 ≡ 0 → (k : ℕ) → k < trailing_zeros w64 n → has_bit n k ≡ has_bit n 0
  zeros_alike some even k low = ap (λ m. eqb m 1) ((bit_at-trailing_zeros w64 n some (omega arith)).2 k low ∙ sym (bit_at_lowest n ∙ even))

-- ---- a mask that grows from its last bit on

grown_first : (m b : ℕ) → b < 2 → has_bit (m * 2 + b) 0 ≡ eqb b 1
grown_first m b small = let rest : (m * 2 + b) % 2 ≡ b = omega arith in lowest_set (m * 2 + b) ∙ ap (λ n. eqb n 1) rest

grown_next : (m b k : ℕ) → b < 2 → has_bit (m * 2 + b) (suc k) ≡ has_bit m k
grown_next m b k small =
    let half : (m * 2 + b) / 2 ≡ m = omega arith in
    ap (λ n. eqb n 1) (bit_at-suc (m * 2 + b) k ∙ ap (λ n. bit_at n k) half)

pub bits_grown : (t : ℕ → Bool) (m x right b : ℕ) → 1 ≤ x → x ≤ right → b < 2 → t (x - 1) ≡ eqb b 1
    → ((k : ℕ) → k < right - x → has_bit m k ≡ t (x + k))
    → (k : ℕ) → k < right - (x - 1) → has_bit (m * 2 + b) k ≡ t (x - 1 + k)
bits_grown t m x right b some within small first bits zero low =
    let here : x - 1 ≡ x - 1 + 0 = omega arith in grown_first m b small ∙ sym first ∙ ap t here
bits_grown t m x right b some within small first bits (suc k) low =
    let there : x + k ≡ x - 1 + suc k = omega (arith, some) in
    grown_next m b k small ∙ bits k (omega (arith, some, within, low)) ∙ ap t there

pub bound_grown : (m x right b : ℕ) → 1 ≤ x → x ≤ right → b < 2 → m < 2 ^ (right - x) → m * 2 + b < 2 ^ (right - (x - 1))
bound_grown m x right b some within small bound =
    let longer : right - (x - 1) ≡ right - x + 1 = omega (arith, some, within) in
    rw longer (rw (pow-add 2 (right - x) 1) (omega (arith, bound, small)))

-- ---- bits that are set in both

both_ones : (a b : ℕ) → a < 2 → b < 2 → eqb (min a b) 1 ≡ (eqb a 1 && eqb b 1)
both_ones zero zero low small = refl
both_ones zero (suc zero) low small = refl
both_ones (suc zero) zero low small = refl
both_ones (suc zero) (suc zero) low small = refl
both_ones (suc (suc a)) b low small = absurd (omega (arith, low))
both_ones a (suc (suc b)) low small = absurd (omega (arith, small))

pub both_set : (a b k : ℕ) → has_bit (bit_and a b) k ≡ (has_bit a k && has_bit b k)
both_set a b k = ap (λ n. eqb n 1) (bit_at_and a b k) ∙ both_ones (bit_at a k) (bit_at b k) (bit_at-lt a k) (bit_at-lt b k)
