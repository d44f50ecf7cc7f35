-- Working. Boxes of pixels, and the box round the corners of a triangle.
use Rattle.std.specs.Prelude.{ℕ, ◌+◌, ◌-◌, ◌*◌, ◌/◌, min, max, ℤ, pos, negsuc, Bool, ◌&&◌, ◌||◌, nat_le, nat_lt, IsTrue, if◌then◌else◌}
use Rattle.std.specs.Int.{int_min, int_max}
use Rattle.std.specs.Ordering.{int_eq}
use Rattle.fd_cover.specs.declared.bounds.Bounds.{Bounds}
use Rattle.fd_cover.specs.declared.triangle.Tri.{Tri}
use Rattle.fd_cover.specs.Covers.{covers}
use Rattle.fd_cover.specs.Cross.{cross}

-- whether the box holds the pixel (x, y): its right and bottom are exclusive
abbrev pub is_within : Bounds → ℕ → ℕ → Bool
is_within box x y = nat_le box.left x && nat_lt x box.right && nat_le box.top y && nat_lt y box.bottom

-- whether the box holds no pixel
abbrev pub is_empty : Bounds → Bool
is_empty box = nat_le box.right box.left || nat_le box.bottom box.top

-- the box holds every pixel that the triangle covers
abbrev pub HoldsCovered : Bounds → Tri → Type 0
HoldsCovered box t = (x y : ℕ) → IsTrue (covers t x y) → IsTrue (is_within box x y)

-- the box holds every pixel that one of the two holds
abbrev pub HoldsBoth : Bounds → Bounds → Bounds → Type 0
HoldsBoth box a b = (x y : ℕ) → IsTrue (is_within a x y || is_within b x y) → IsTrue (is_within box x y)

-- every other box that holds both holds all that this one holds
abbrev pub IsSmallest : Bounds → Bounds → Bounds → Type 0
IsSmallest box a b = (other : Bounds) → HoldsBoth other a b → (x y : ℕ) → IsTrue (is_within box x y) → IsTrue (is_within other x y)

-- the least and the greatest of three coordinates
abbrev pub least : ℤ → ℤ → ℤ → ℤ
least a b c = int_min (int_min a b) c

abbrev pub greatest : ℤ → ℤ → ℤ → ℤ
greatest a b c = int_max (int_max a b) c

-- a coordinate, or 0 where it is left of the target or above it
abbrev pub on_target : ℤ → ℕ
on_target (pos n) = n
on_target (negsuc n) = 0

-- the first pixel whose centre is at a coordinate in 1/256 pixel or after it
abbrev pub first_from : ℤ → ℕ
first_from coordinate = (on_target coordinate + 127) / 256

-- one past the last pixel whose centre is at a coordinate in 1/256 pixel or before it
abbrev pub past : ℤ → ℕ
past coordinate = (on_target coordinate + 128) / 256

-- the box of the pixels whose centres lie between the least and the greatest coordinate of the corners
unfoldable pub corner_box : Tri → Bounds
corner_box t = record {
  left = first_from (least t.a.x t.b.x t.c.x);
  top = first_from (least t.a.y t.b.y t.c.y);
  right = past (greatest t.a.x t.b.x t.c.x);
  bottom = past (greatest t.a.y t.b.y t.c.y);
}

-- the same, or no pixel where the triangle has no area
unfoldable pub bounds_of : Tri → Bounds
bounds_of t = if int_eq (cross t.a t.b t.c) (pos 0) then record { left = 0; top = 0; right = 0; bottom = 0 } else corner_box t

-- the smallest box that holds both
unfoldable pub joined_box : Bounds → Bounds → Bounds
joined_box a b =
    if is_empty a
    then b
    else (if is_empty b
    then a
    else record {
      left = min a.left b.left;
      top = min a.top b.top;
      right = max a.right b.right;
      bottom = max a.bottom b.bottom;
    })

-- the pixels that both hold
abbrev pub shared_box : Bounds → Bounds → Bounds
shared_box a b = record { left = max a.left b.left; top = max a.top b.top; right = min a.right b.right; bottom = min a.bottom b.bottom }

-- how many pixels the box holds: a side that ends before it begins counts as 0
abbrev pub pixels_of_box : Bounds → ℕ
pixels_of_box box = (box.bottom - box.top) * (box.right - box.left)
