-- Working. The box round the triangles of a draw.
use Rattle.std.specs.Prelude.{◌≡◌, ℕ, ◌+◌, ◌-◌, ◌*◌, ◌<◌, ◌≤◌, ◌⊎◌, ◌&&◌, min, Bool, false, IsTrue, List, [], ◌∷◌, length, Some, slice_get, take, drop}
use Rattle.fd_cover.specs.declared.bounds.Bounds.{Bounds}
use Rattle.fd_cover.specs.Bounds.{is_within, HoldsCovered, bounds_of, joined_box}
use Rattle.fd_cover.specs.Covers.{covers}
use Rattle.fd_events.specs.Limits.{group_size}
use Rattle.fd_events.specs.Draw.{Triangle}
use Rattle.fd_events.specs.Picture.{is_on}

-- whether a triangle covers pixel (x, y) and may have a colour there: elsewhere it is drawn in no state
abbrev pub may_colour : Triangle → ℕ → ℕ → Bool
may_colour t x y = covers t.corners x y && is_on t.picture x y

-- the box holds every pixel that one of the triangles covers
abbrev pub HoldsTriangles : Bounds → List Triangle → Type 0
HoldsTriangles box ts = (i : ℕ) (t : Triangle) → slice_get ts i ≡ Some t → HoldsCovered box t.corners

-- the triangles from number first up to number last
abbrev pub triangles_between : ℕ → ℕ → List Triangle → List Triangle
triangles_between first last ts = take (last - first) (drop first ts)

-- the box holds every pixel that a triangle of this group covers
abbrev pub HoldsGroup : Bounds → ℕ → List Triangle → Type 0
HoldsGroup box group ts = (i : ℕ) (t : Triangle) → group_size * group ≤ i → i < group_size * group + group_size → slice_get ts i ≡ Some t
    → HoldsCovered box t.corners

-- a box, joined with those of triangles one after the other
abbrev pub joined_with : Bounds → List Triangle → Bounds
joined_with box [] = box
joined_with box (t ∷ ts) = joined_with (joined_box box (bounds_of t.corners)) ts

-- the box round triangles
abbrev pub bounds_of_triangles : List Triangle → Bounds
bounds_of_triangles ts = joined_with (record { left = 0; top = 0; right = 0; bottom = 0 }) ts

-- the box is the one round the triangles, and holds what they cover
pub record IsRound (box : Bounds) (ts : List Triangle) : Type 0 where
  pub value : box ≡ bounds_of_triangles ts
  pub covered : HoldsTriangles box ts

-- the triangles of a group
abbrev pub group_of : ℕ → List Triangle → List Triangle
group_of group ts = triangles_between (group_size * group) (min (group_size * group + group_size) (length ts)) ts

-- the box is the one round a group of the triangles, and holds what they cover
pub record IsRoundGroup (box : Bounds) (group : ℕ) (ts : List Triangle) : Type 0 where
  pub value : box ≡ bounds_of_triangles (group_of group ts)
  pub covered : HoldsGroup box group ts

-- the boxes are those round the groups, from the first group on
abbrev pub AreRoundGroups : List Bounds → List Triangle → Type 0
AreRoundGroups boxes ts = (group : ℕ) (box : Bounds) → slice_get boxes group ≡ Some box → IsRoundGroup box group ts

-- the box round a group, or the one round all triangles
abbrev pub IsGroupBox : Bounds → ℕ → List Triangle → Type 0
IsGroupBox box group ts = (box ≡ bounds_of_triangles (group_of group ts)) ⊎ (box ≡ bounds_of_triangles ts)

-- the box is the one round the triangle of a number, and holds what it covers
abbrev pub IsTriangleBox : Bounds → ℕ → List Triangle → Type 0
IsTriangleBox box number ts = (t : Triangle) → slice_get ts number ≡ Some t → (box ≡ bounds_of t.corners) × HoldsCovered box t.corners

-- so is the box of each number
abbrev pub AreTriangleBoxes : List Bounds → List Triangle → Type 0
AreTriangleBoxes boxes ts = (number : ℕ) (box : Bounds) → slice_get boxes number ≡ Some box → IsTriangleBox box number ts

-- the boxes are those of all triangles, in their order
pub record AreBoxesOf (boxes : List Bounds) (ts : List Triangle) : Type 0 where
  pub each : AreTriangleBoxes boxes ts
  pub size : length boxes ≡ length ts

-- none of the triangles from number first up to number last covers a pixel of the window
abbrev pub CoverNone : Bounds → List Triangle → ℕ → ℕ → Type 0
CoverNone window ts first last = (i : ℕ) (t : Triangle) → first ≤ i → i < last → slice_get ts i ≡ Some t → (x y : ℕ) → IsTrue (is_within window x y)
    → covers t.corners x y ≡ false
