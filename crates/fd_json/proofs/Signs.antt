-- The number of a numeral with a sign, and of one without.
use Rattle.std.proofs.Common.{◌≡◌, ℕ, List, [], ◌∷◌, length, Bool, true, false, cond, refl, ap, take, drop, take_all, ◌-◌, arith, ◌==◌}
use Rattle.std.specs.Prelude.{slice_index}
use Rattle.fast_float.specs.Text.{minus, scan}
use Rattle.serde_json.specs.Read.{number_of, number_from}

signed_as : (s : List ℕ) (b : Bool) → (slice_index s 0 == minus) ≡ b → number_of s ≡ cond b (number_from true (scan (drop 1 s))) (number_from false (scan s))
unfolding number_of
signed_as s b is = ap (λ (c : Bool). cond c (number_from true (scan (drop 1 s))) (number_from false (scan s))) is

pub number_of-minus : (s : List ℕ) → (slice_index s 0 == minus) ≡ true → number_of s ≡ number_from true (scan (drop 1 s))
number_of-minus s is = signed_as s true is

pub number_of-plain : (s : List ℕ) → (slice_index s 0 == minus) ≡ false → number_of s ≡ number_from false (scan s)
number_of-plain s is = signed_as s false is

-- an empty text has no sign
pub no_sign : (s : List ℕ) → length s ≡ 0 → (slice_index s 0 == minus) ≡ false
no_sign [] is = refl
no_sign (b ∷ s) is = absurd (omega (arith, is))

-- what follows the first byte
pub rest : (s : List ℕ) → take (length s - 1) (drop 1 s) ≡ drop 1 s
rest [] = take_all (length {A = ℕ} [] - 1) [] (omega arith)
rest (b ∷ s) = take_all (length (b ∷ s) - 1) s (omega arith)
