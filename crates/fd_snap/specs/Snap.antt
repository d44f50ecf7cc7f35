-- Promised. Snapping of positions in 1/65536 pixel to the subpixel grid, whose unit is 1/256 pixel: to the nearest, ties to even.
-- Direct3D 11.3 functional specification, sections 3.2.4.1 and 15.2.
use Rattle.std.specs.Prelude.{◌≡◌, ◌≢◌, ℕ, ◌≤◌, ℤ, pos, ◌+ℤ◌, ◌-ℤ◌, ◌*ℤ◌, unsigned_abs}
use Rattle.std.specs.Int.{int_div_euclid, int_rem_euclid}
use Rattle.std.specs.Ordering.{int_cmp}
use Rattle.std.specs.declared.cmp.Ordering.{Ordering}
use Rattle.std.specs.declared.cmp.Ordering.TheVariants.{Less, Equal, Greater}
use Rattle.fd_snap.specs.Point.{Point}

-- how far x is from the multiple s of 256
abbrev pub distance : ℤ → ℤ → ℕ
distance s x = unsigned_abs (pos 256 *ℤ s -ℤ x)

-- no multiple of 256 is nearer to x than s, and s is even where another one is as near
pub record IsNearestEven (x s : ℤ) : Type 0 where
  pub nearest : (t : ℤ) → distance s x ≤ distance t x
  pub even_on_tie : (t : ℤ) → t ≢ s → distance t x ≡ distance s x → int_rem_euclid s (pos 2) ≡ pos 0

-- a whole number with a fraction below, at or above a half, rounded, and at a half to the even one
abbrev pub rounded : ℤ → Ordering → ℤ
rounded whole Less = whole
rounded whole Equal = whole +ℤ int_rem_euclid whole (pos 2)
rounded whole Greater = whole +ℤ pos 1

-- x in units of 256, rounded
unfoldable pub snapped : ℤ → ℤ
snapped x = rounded (int_div_euclid x (pos 256)) (int_cmp (int_rem_euclid x (pos 256)) (pos 128))

-- a point, snapped in both coordinates
abbrev pub snapped_point : Point → Point
snapped_point p = record { x = snapped p.x; y = snapped p.y }
