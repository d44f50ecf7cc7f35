-- Promised. Which pixels a triangle covers: the top-left rule.
-- Direct3D 11.3 functional specification, section 3.4.2, triangle rasterization rules.
use Rattle.std.specs.Prelude.{ℕ, Bool, not, ◌&&◌, ◌||◌, ℤ, pos, int_lt}
use Rattle.std.specs.Ordering.{int_eq}
use Rattle.fd_snap.specs.Point.{Point}
use Rattle.fd_cover.specs.declared.triangle.Tri.{Tri}
use Rattle.fd_cover.specs.Cross.{cross, centre}

-- both above 0 or both below 0
abbrev pub same_sign : ℤ → ℤ → Bool
same_sign a b = (int_lt (pos 0) a && int_lt (pos 0) b) || (int_lt a (pos 0) && int_lt b (pos 0))

-- the edge u v is horizontal and above the opposite vertex c
unfoldable pub is_top : Point → Point → Point → Bool
is_top u v c = int_eq u.y v.y && int_lt v.y c.y

-- the edge u v is not horizontal, and from its upper end to its lower one the opposite vertex c lies to the right
unfoldable pub is_left : Point → Point → Point → Bool
is_left u v c = (int_lt u.y v.y && int_lt (cross u v c) (pos 0)) || (int_lt v.y u.y && int_lt (cross v u c) (pos 0))

-- a point lies on the inner side of the edge u v, which is that of c, or on its line where the edge is a top or a left one
unfoldable pub admits : Point → Point → Point → Point → Bool
admits u v c point =
    same_sign (cross u v point) (cross u v c) || (int_eq (cross u v point) (pos 0) && (is_top u v c || is_left u v c))

-- a triangle covers the pixel (x, y): its area is not 0, and each edge admits the pixel's centre
unfoldable pub covers : Tri → ℕ → ℕ → Bool
covers t x y =
    not (int_eq (cross t.a t.b t.c) (pos 0)) && (admits t.a t.b t.c (centre x y) && (admits t.b t.c t.a (centre x y) && admits t.c t.a t.b (centre x y)))
