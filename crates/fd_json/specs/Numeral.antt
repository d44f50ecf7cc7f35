-- Working. Whole numbers of a JSON text.
use Rattle.std.specs.Prelude.{ℤ, ◌^◌, ◌&&◌, Bool, true, false, nat_lt, nat_le, if◌then◌else◌, Option, Some, None, option_and_then}
use Rattle.fast_float.specs.Text.{Parts, digits_of, with_sign}
use Rattle.serde_json.specs.Data.{Num, unsigned, negative, Data}
use Rattle.serde_json.specs.Find.{as_number, as_i64}
use Rattle.serde_json.specs.Read.{is_integer}

-- a whole number of 64 bits, without or with the sign; `-0` is none
abbrev pub integer_of : Bool → Parts → Option Num
integer_of false p = if is_integer p && nat_lt (digits_of p) (2 ^ 64) then Some (unsigned (digits_of p)) else None
integer_of true p = if is_integer p && nat_lt 0 (digits_of p) && nat_le (digits_of p) (2 ^ 63) then Some (negative (with_sign true (digits_of p))) else None

-- the value's number without point and exponent, if it fits 64 bits
abbrev pub whole_of : Data → Option ℤ
whole_of d = option_and_then as_i64 (as_number d)
