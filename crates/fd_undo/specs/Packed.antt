-- Working. How a span is packed: its row has 32768 on top where each pixel of a row has a colour in the stack's list, and its length where each has a depth
-- there. A length above 16384 is that of a span of several rows.
use Rattle.std.specs.Prelude.{◌≡◌, ℕ, ◌+◌, ◌-◌, ◌*◌, ◌/◌, ◌%◌, ◌<◌, ◌≤◌, ◌==◌, nat_lt, Bool, true, false, Option, Some, None, if◌then◌else◌, refl}
use Rattle.std.proofs.Common.{sym, ◌∙◌, ap, arith}
use Rattle.std.proofs.lemmas.Bool.Decides.{nat_tests}
use Rattle.fd_undo.specs.declared.span.Span.TheInside.{Inside}
use Rattle.fd_undo.specs.Span.{Span}

-- whether a number has no mark, and the number without it
abbrev pub is_plain : ℕ → Bool
is_plain n = nat_lt n 32768

abbrev pub unmarked : ℕ → ℕ
unmarked n = if is_plain n then n else n - 32768

-- whether a length without its mark is that of several rows, and what it says: 32 for each row but the first, and the pixels of a row but one
abbrev pub is_long : ℕ → Bool
is_long n = nat_lt 16384 n

abbrev pub len_of : ℕ → ℕ
len_of n = if is_long n then (n - 16384) % 32 + 1 else n

abbrev pub rows_of_len : ℕ → ℕ
rows_of_len n = if is_long n then (n - 16384) / 32 + 1 else 1

abbrev pub unpacked : Inside → Span
unpacked a = record {
  x = a.x;
  y = unmarked a.marked_y;
  len = len_of (unmarked a.marked_len);
  rows = rows_of_len (unmarked a.marked_len);
  one_colour = is_plain a.marked_y;
  same_depth = if is_plain a.marked_len then Some a.depth else None;
}

-- a depth that is not used is 0; and the rows are several where they are said to be
pub record IsPacked (a : Inside) : Type 0 where
  pub deep : is_plain a.marked_len ≡ false → a.depth ≡ 0
  pub several : 16384 < unmarked a.marked_len → 16416 ≤ unmarked a.marked_len

abbrev pub with_mark : Bool → ℕ → ℕ
with_mark plain n = if plain then n else n + 32768

abbrev pub is_some : Option ℕ → Bool
is_some (Some depth) = true
is_some None = false

abbrev pub packed_depth : Option ℕ → ℕ
packed_depth (Some depth) = depth
packed_depth None = 0

abbrev pub packed_len : ℕ → ℕ → ℕ
packed_len rows len = if rows == 1 then len else 16384 + 32 * (rows - 1) + (len - 1)

abbrev pub packed : Span → Inside
packed s = record {
  x = s.x;
  marked_y = with_mark s.one_colour s.y;
  marked_len = with_mark (is_some s.same_depth) (packed_len s.rows s.len);
  depth = packed_depth s.same_depth;
}

-- what is packed gives the fields back
number_is : (n : ℕ) (t : Bool) → is_plain n ≡ t → with_mark t (if t then n else n - 32768) ≡ n
number_is n true is = refl
number_is n false is =
    let long : 32768 ≤ n = grind (arith, nat_tests, is) in
    omega (arith, long)

number_again : (n : ℕ) → with_mark (is_plain n) (unmarked n) ≡ n
number_again n = number_is n (is_plain n) refl

len_again : (n : ℕ) → (16384 < n → 16416 ≤ n) → packed_len (rows_of_len n) (len_of n) ≡ n
len_again n several = by_length (is_long n) refl
  where
    by_length : (t : Bool) → is_long n ≡ t → packed_len (if t then (n - 16384) / 32 + 1 else 1) (if t then (n - 16384) % 32 + 1 else n) ≡ n
    by_length false is = refl
    by_length true is =
        let long : 16384 < n = grind (arith, nat_tests, is) in
        let more : 16416 ≤ n = several long in
        let not_one : ((n - 16384) / 32 + 1 == 1) ≡ false = grind (arith, nat_tests, more) in
        ap (λ b. if b then (n - 16384) % 32 + 1 else 16384 + 32 * ((n - 16384) / 32 + 1 - 1) + ((n - 16384) % 32 + 1 - 1)) not_one ∙ omega (arith, long)

kind_is : (t : Bool) (depth : ℕ) → is_some (if t then Some depth else None) ≡ t
kind_is true depth = refl
kind_is false depth = refl

depth_is : (t : Bool) (depth : ℕ) → (t ≡ false → depth ≡ 0) → packed_depth (if t then Some depth else None) ≡ depth
depth_is true depth none = refl
depth_is false depth none = sym (none refl)

pub packed_again : (a : Inside) → IsPacked a → packed (unpacked a) ≡ a
packed_again a is =
    let n : ℕ = a.marked_len in
    let plain : Bool = is_plain n in
    let depth : ℕ = packed_depth (if plain then Some a.depth else None) in
    let len : ℕ = with_mark (is_some (if plain then Some a.depth else None)) (packed_len (rows_of_len (unmarked n)) (len_of (unmarked n))) in
    ap (λ y. record { x = a.x; marked_y = y; marked_len = len; depth = depth }) (number_again a.marked_y)
    ∙ ap (λ l. record { x = a.x; marked_y = a.marked_y; marked_len = l; depth = depth })
    (ap (λ t. with_mark t (packed_len (rows_of_len (unmarked n)) (len_of (unmarked n)))) (kind_is plain a.depth)
    ∙ ap (with_mark (is_plain n)) (len_again (unmarked n) is.several) ∙ number_again n)
    ∙ ap (λ d. record { x = a.x; marked_y = a.marked_y; marked_len = n; depth = d }) (depth_is plain a.depth is.deep)
