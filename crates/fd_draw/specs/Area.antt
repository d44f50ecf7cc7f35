-- Working. Boxes of pixels in a tile's place.
use Rattle.std.specs.Prelude.{◌≡◌, ℕ, ◌+◌, ◌-◌, ◌≤◌, ◌<◌, Bool, not, ◌&&◌, Option}
use Rattle.fd_cover.specs.declared.bounds.Bounds.{Bounds}
use Rattle.fd_snap.specs.Limits.{most_pixels}
use Rattle.fd_cover.specs.declared.triangle.Tri.{Tri}
use Rattle.fd_cover.specs.declared.verdict.Raster.{Raster}
use Rattle.fd_cover.specs.declared.verdict.Rect.{Rect}
use Rattle.fd_cover.specs.Bounds.{is_within}
use Rattle.fd_cover.specs.Covers.{covers}
use Rattle.fd_cover.specs.Verdict.{holds, is_culled}
use Rattle.fd_events.specs.declared.pipeline.Pipeline.{Pipeline}
use Rattle.fd_events.specs.Picture.{Painting, is_on}
use Rattle.fd_tile.specs.declared.place.Place.{Place}
use Rattle.fd_tile.specs.declared.place.TheConstants.{TILE_SIDE}
use Rattle.fd_tile.specs.Place.{Holds}

-- the scissor takes pixel (x, y) away
abbrev pub is_closed : Raster → Rect → ℕ → ℕ → Bool
is_closed raster rect x y = raster.scissor && not (holds rect x y)

-- the box lies in the place, and no side of it is past the opposite one
pub record LiesIn (box : Bounds) (p : Place) : Type 0 where
  pub from_left : p.left ≤ box.left
  pub columns : box.left ≤ box.right
  pub to_right : box.right ≤ p.left + p.width
  pub from_top : p.top ≤ box.top
  pub rows : box.top ≤ box.bottom
  pub to_bottom : box.bottom ≤ p.top + p.height

-- the box has no more columns and rows than a tile, and lies on the target
pub record IsSmall (box : Bounds) : Type 0 where
  pub columns : box.left ≤ box.right
  pub narrow : box.right ≤ box.left + TILE_SIDE
  pub right : box.right ≤ most_pixels
  pub rows : box.top ≤ box.bottom
  pub low : box.bottom ≤ box.top + TILE_SIDE
  pub bottom : box.bottom ≤ most_pixels

-- the box lies in another one and has pixels
pub record IsPartOfBox (part box : Bounds) : Type 0 where
  pub from_left : box.left ≤ part.left
  pub columns : part.left < part.right
  pub to_right : part.right ≤ box.right
  pub from_top : box.top ≤ part.top
  pub rows : part.top < part.bottom
  pub to_bottom : part.bottom ≤ box.bottom

-- the box of a place's pixels
abbrev pub box_of_place : Place → Bounds
box_of_place p = record { left = p.left; top = p.top; right = p.left + p.width; bottom = p.top + p.height }

-- the place that a box takes
abbrev pub place_of_box : Bounds → Place
place_of_box box = record { left = box.left; top = box.top; width = box.right - box.left; height = box.bottom - box.top }

-- of the place's pixels, the box holds those that the scissor leaves
abbrev pub IsOpen : Bounds → Raster → Rect → Place → Type 0
IsOpen box raster rect p = (x y : ℕ) → Holds p x y → is_closed raster rect x y ≡ not (is_within box x y)

-- of the place's pixels, the box holds those that the scissor leaves and on which a picture lies, if there is one
abbrev pub IsWindow : Bounds → Option Painting → Pipeline → Place → Type 0
IsWindow box picture s p = (x y : ℕ) → Holds p x y → is_within box x y ≡ (is_on picture x y && not (is_closed s.raster s.scissor x y))

-- whether a triangle is drawn at pixel (x, y), where a box holds the pixels that the scissor leaves
abbrev pub is_drawn_in : Bounds → Raster → Tri → ℕ → ℕ → Bool
is_drawn_in box raster t x y = is_within box x y && (not (is_culled raster t) && covers t x y)

-- of the place's pixels, those are written that the box holds and that are covered
abbrev pub IsWrittenIn : (ℕ → ℕ → Bool) → (ℕ → ℕ → Bool) → Place → Bounds → Type 0
IsWrittenIn written covered p box = (x y : ℕ) → Holds p x y → written x y ≡ (is_within box x y && covered x y)
