-- What the tests of coverage tell of signs.
use Rattle.std.proofs.Common.{◌≡◌, ◌≢◌, ℕ, ◌<◌, ℤ, pos, ◌⊎◌, Bool, true, ◌&&◌, ◌||◌, sym, arith}
use Rattle.std.specs.Prelude.{int_lt}
use Rattle.std.specs.Ordering.{int_eq}
use Rattle.fd_snap.specs.Point.{Point}
use Rattle.fd_cover.specs.declared.triangle.Tri.{Tri}
use Rattle.fd_cover.specs.Cross.{cross, centre}
use Rattle.fd_cover.specs.Covers.{covers, admits, same_sign, is_top, is_left}
use borrow.Author.Differences.{up, down, true_is_lt, lt-true}

abbrev pub IsPositive : ℤ → Type 0
IsPositive z = down z < up z

abbrev pub IsNegative : ℤ → Type 0
IsNegative z = up z < down z

-- off the edge's line only the sides count
pub off_line : (e t : ℤ) (inclusive : Bool) → e ≢ pos 0 → same_sign e t ≡ (same_sign e t || (int_eq e (pos 0) && inclusive))
off_line e t inclusive apart = grind arith

pub is_negative : (z : ℤ) → IsNegative z → int_lt z (pos 0) ≡ true
is_negative z h = sym (true_is_lt z (pos 0) (omega arith))

pub negative_from : (z : ℤ) → int_lt z (pos 0) ≡ true → IsNegative z
negative_from z h = omega (arith, lt-true z (pos 0) h)

-- the point's side e and the opposite vertex's side t are alike, or the point is on an inclusive edge's line
abbrev pub IsAdmitted : ℤ → ℤ → Bool → Type 0
IsAdmitted e t inclusive = (IsPositive e × IsPositive t) ⊎ ((IsNegative e × IsNegative t) ⊎ ((e ≡ pos 0) × (inclusive ≡ true)))

pub admitted_from : (e t : ℤ) (inclusive : Bool) → (same_sign e t || (int_eq e (pos 0) && inclusive)) ≡ true → IsAdmitted e t inclusive
admitted_from e t inclusive h = grind arith

pub admitted_to : (e t : ℤ) (inclusive : Bool) → IsAdmitted e t inclusive → (same_sign e t || (int_eq e (pos 0) && inclusive)) ≡ true
admitted_to e t inclusive h = grind arith

-- an edge is top or left
abbrev pub is_inclusive : Point → Point → Point → Bool
is_inclusive u v c = is_top u v c || is_left u v c

-- the triangle of three vertices covers a point
pub record IsCovered (u v c p : Point) : Type 0 where
  pub area : cross u v c ≢ pos 0
  pub first : admits u v c p ≡ true
  pub second : admits v c u p ≡ true
  pub third : admits c u v p ≡ true

pub covered_from : (t : Tri) (x y : ℕ) → covers t x y ≡ true → IsCovered t.a t.b t.c (centre x y)
unfolding covers
covered_from t x y h = grind arith

pub covered_to : (t : Tri) (x y : ℕ) → IsCovered t.a t.b t.c (centre x y) → covers t x y ≡ true
unfolding covers
covered_to t x y h = grind arith
