-- Working. The pixels that a triangle covers in a box, row by row.
use Rattle.std.specs.Prelude.{◌≡◌, ℕ, ◌+◌, ◌-◌, ◌*◌, ◌<◌, ◌≤◌, nat_lt, Option, Some, None, List, slice_index_or, if◌then◌else◌}
use Rattle.fd_cover.specs.declared.bounds.Bounds.{Bounds}
use Rattle.fd_cover.specs.declared.triangle.Tri.{Tri}
use Rattle.fd_cover.specs.Covers.{covers}
use Rattle.fd_draw.specs.declared.found.Found.{Found}
use Rattle.fd_draw.specs.declared.found.RowSpan.{RowSpan}
use Rattle.fd_tile.specs.declared.place.TheConstants.{TILE_SIDE}
use Rattle.fd_draw.specs.Area.{IsSmall, place_of_box}
use Rattle.fd_draw.specs.Demand.{pixels_in, spans_in}
use Rattle.fd_draw.specs.Span.{IsRowSpan}

-- a span whose columns are counted from this one, which is missing where it has no pixel
abbrev pub span_from : ℕ → RowSpan → Option (ℕ × ℕ)
span_from left row = if nat_lt row.first row.past then Some (left + row.first, left + row.past) else None

abbrev pub no_pixel : RowSpan
no_pixel = record { first = 0; past = 0 }

-- of each row of the box above row `bottom`, the span of what the triangle covers
abbrev pub AreRowSpans : Tri → Bounds → List RowSpan → ℕ → Type 0
AreRowSpans t box rows bottom = (y : ℕ) → box.top ≤ y → y < bottom
    → IsRowSpan (λ x. covers t x y) box.left box.right (span_from box.left (slice_index_or rows (y - box.top) no_pixel))

-- what was found is what the triangle covers in a box of a tile, and how much that is
pub record IsFound (t : Tri) (f : Found) : Type 0 where
  pub small : IsSmall f.area
  pub rows : AreRowSpans t f.area f.rows f.area.bottom
  pub spans : f.demand.spans ≡ spans_in (covers t) (place_of_box f.area)
  pub pixels : f.demand.pixels ≡ pixels_in (covers t) (place_of_box f.area)
  pub few_spans : f.demand.spans ≤ TILE_SIDE
  pub few_pixels : f.demand.pixels ≤ TILE_SIDE * TILE_SIDE
