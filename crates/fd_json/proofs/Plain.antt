-- A few digits, and the number that they write.
use Rattle.std.proofs.Common.{◌≡◌, ℕ, ◌+◌, ◌%◌, ◌^◌, ◌<◌, ◌≤◌, List, [], ◌++◌, length, Bool, true, false, Some, refl, sym, ap, ◌∙◌, arith, append-nil}
use Rattle.std.proofs.Common.{ℤ, pos, negsuc, zero, suc, neg_ℤ, ◌-ℤ◌, w64, to_z, of_z, SFits}
use Rattle.std.specs.Prelude.{nat_lt, nat_le, ◌&&◌, if◌then◌else◌}
use Rattle.std.proofs.lemmas.Bool.Decides.{nat_tests}
use Rattle.std.proofs.Math.IntN.{+ℤ_idl}
use Rattle.std.proofs.lemmas.Int.{to_z_pos, to_z-of_z}
use Rattle.serde_json.specs.Find.{of_integer}
use Rattle.serde_json.specs.Data.{unsigned, negative}
use Rattle.serde_json.specs.Read.{number_from, float_of}
use Rattle.std.specs.Char.{digit_value}
use Rattle.std.specs.Str.Parse.{AllDigits, IsNumeral, digits_value}
use Rattle.std.proofs.lemmas.Str.{digit_value_digit}
use Rattle.std.proofs.lemmas.Str.Parse.{numerals_by_value, tells_digits, digits_value_short}
use Rattle.std.proofs.lemmas.Float.Parse.{scan_numeral-text_of}
use Rattle.fast_float.specs.Text.{Parts, scan, text_of}

-- a byte whose distance from `0` is at most 9, in bytes that wrap
pub digit_is : (b : ℕ) → b < 256 → (b + 208) % 256 ≤ 9 → digit_value b ≡ (b + 208) % 256
digit_is b fits few = let within : (48 ≤ b) × (b ≤ 57) = (omega (arith, fits, few), omega (arith, fits, few)) in
    omega (arith, fits, few, digit_value_digit b within)

pub few_digits : (bs : List ℕ) (k : ℕ) → AllDigits 10 bs → length bs ≤ k → digits_value 10 bs < 10 ^ k
few_digits bs k all short = digits_value_short (numerals_by_value (AllDigits 10) tells_digits) bs k all short

-- the parts of a numeral of digits alone
abbrev pub plain_parts : List ℕ → Parts
plain_parts ds = record { whole = ds; point = false; fraction = []; exponent_negative = false; exponent = []; len = length ds }

plain_text : (ds : List ℕ) → text_of (plain_parts ds) ≡ ds
plain_text ds = append-nil ds

pub scan-digits : (ds : List ℕ) → AllDigits 10 ds → scan ds ≡ plain_parts ds
scan-digits ds all = ap scan (sym (plain_text ds))
    ∙ scan_numeral-text_of (plain_parts ds) (record {
      whole_digits = all;
      fraction_digits = tt;
      exponent_digits = tt;
      no_point = λ _. refl;
      no_exponent =
          λ _. refl;
      len_is = sym (ap length (plain_text ds));
    })

-- ---- the number of digits, without and with the sign

pub number-digits : (ds : List ℕ) (n : ℕ) → IsNumeral 10 ds → n ≡ digits_value 10 ds → n < 10 ^ 18 → number_from false (scan ds) ≡ Some (unsigned n)
number-digits ds n numeral is small = ap (number_from false) (scan-digits ds numeral.1) ∙ at (nat_lt 0 (length ds)) (digits_value 10 (ds ++ []))
    (grind (arith, nat_tests, numeral.0)) (ap (digits_value 10) (append-nil ds) ∙ sym is)
  where
    at : (some : Bool) (m : ℕ) → some ≡ true → m ≡ n
        → (if some && true && true && nat_lt m (2 ^ 64) then Some (unsigned m) else float_of false (plain_parts ds)) ≡ Some (unsigned n)
    at some m is-some same = rw (is-some, same, below) refl
      where
        below : nat_lt n (2 ^ 64) ≡ true
        below = grind (arith, nat_tests, small)

pub number-minus_digits : (ds : List ℕ) (n : ℕ) → IsNumeral 10 ds → n ≡ digits_value 10 ds → n < 10 ^ 18 → 0 < n → number_from true (scan ds)
    ≡ Some (negative (neg_ℤ (pos n)))
number-minus_digits ds n numeral is small positive = ap (number_from true) (scan-digits ds numeral.1) ∙ at (nat_lt 0 (length ds)) (digits_value 10 (ds ++ []))
    (grind (arith, nat_tests, numeral.0)) (ap (digits_value 10) (append-nil ds) ∙ sym is)
  where
    at : (some : Bool) (m : ℕ) → some ≡ true → m ≡ n → (if some && true && true && nat_lt 0 m && nat_le m (2 ^ 63) then Some (negative (neg_ℤ (pos m)))
        else float_of true (plain_parts ds)) ≡ Some (negative (neg_ℤ (pos n)))
    at some m is-some same = rw (is-some, same, above, below) refl
      where
        above : nat_lt 0 n ≡ true
        above = grind (arith, nat_tests, positive)

        below : nat_le n (2 ^ 63) ≡ true
        below = grind (arith, nat_tests, small)

-- ---- as 64 bits with a sign

pub as_signed : (n : ℕ) → n < 10 ^ 18 → Some (unsigned n) ≡ Some (of_integer (to_z w64 n))
as_signed n small = ap (λ (z : ℤ). Some (of_integer z)) (sym (to_z_pos w64 n (omega (arith, small))))

pub as_negative : (n : ℕ) → n < 10 ^ 18 → 0 < n → Some (negative (neg_ℤ (pos n))) ≡ Some (of_integer (to_z w64 (of_z w64 (pos 0 -ℤ to_z w64 n))))
as_negative zero small some = absurd (omega (arith, some))
as_negative (suc m) small some =
    let size : to_z w64 (suc m) ≡ pos (suc m) = to_z_pos w64 (suc m) (omega (arith, small)) in
    let fits : SFits w64 (negsuc m) = omega (arith, small) in
    let minus : (pos 0 -ℤ to_z w64 (suc m)) ≡ negsuc m = ap (λ (z : ℤ). pos 0 -ℤ z) size ∙ +ℤ_idl (negsuc m) in
    ap (λ (z : ℤ). Some (of_integer z)) (sym (ap (λ (z : ℤ). to_z w64 (of_z w64 z)) minus ∙ to_z-of_z w64 (negsuc m) fits))
