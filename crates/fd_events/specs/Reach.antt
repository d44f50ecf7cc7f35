-- Working. The box of the pixels that an event can write.
use Rattle.std.specs.Prelude.{◌≡◌, ℕ, ◌<◌, min, Bool, false, ◌&&◌, not, Option, option_map, List, [], length, map, slice_index_or}
use Rattle.fd_cover.specs.declared.bounds.Bounds.{Bounds}
use Rattle.fd_cover.specs.Bounds.{is_within, is_empty}
use Rattle.fd_events.specs.declared.event.Event.{Event}
use Rattle.fd_events.specs.declared.event.Event.TheVariants.{Clear, DepthClear, Draw}
use Rattle.fd_events.specs.declared.pipeline.Pipeline.{Pipeline}
use Rattle.fd_events.specs.declared.reach.Reach.{Reach}
use Rattle.fd_events.specs.Bounds.{bounds_of_triangles}
use Rattle.fd_events.specs.Draw.{triangles_of}
use Rattle.fd_events.specs.Image.{Pixel, pixel_after, kept_by}
use Rattle.fd_events.specs.Picture.{clipped_to}
use Rattle.fd_events.specs.Table.{Table, is_set, event_at}

-- the part of a box that lies on a target of this size
abbrev pub clipped_box : ℕ → ℕ → Bounds → Bounds
clipped_box width height box = record { left = min box.left width; top = min box.top height; right = min box.right width; bottom = min box.bottom height }

-- a clear writes the whole target, a draw only what lies in the box round its triangles and on its picture, and any other event nothing
abbrev pub reach_of : ℕ → ℕ → Event → Bounds
reach_of width height (Clear colour) = record { left = 0; top = 0; right = width; bottom = height }
reach_of width height (DepthClear depth) = record { left = 0; top = 0; right = width; bottom = height }
reach_of width height (Draw draw) = clipped_box width height (clipped_to draw.picture (bounds_of_triangles (triangles_of draw)))
reach_of width height other = record { left = 0; top = 0; right = 0; bottom = 0 }

-- outside the box the event leaves every pixel of a target of this size as it is, in any state, and keeps nothing of it
abbrev pub HoldsWritten : Bounds → ℕ → ℕ → Event → Type 0
HoldsWritten box width height event = (state : Pipeline) (x y : ℕ) (before : Pixel) → x < width → y < height → is_within box x y ≡ false
    → (pixel_after event state x y before ≡ before) × (kept_by event state x y before ≡ [])

-- whether an event is switched on and its box has a pixel
abbrev pub may_write : ℕ → ℕ → Bool → Event → Bool
may_write width height on event = on && not (is_empty (reach_of width height event))

abbrev pub may_write_at : Table → ℕ → Option Bool
may_write_at t number = option_map (may_write t.width t.height (is_set t.flags number)) (event_at t number)

-- the box that is kept in 8 bytes
abbrev pub box_of : Reach → Bounds
box_of reach = record { left = reach.left; top = reach.top; right = reach.right; bottom = reach.bottom }

-- one is kept for each event
abbrev pub AreReaches : ℕ → ℕ → List Event → List Reach → Type 0
AreReaches width height events reaches = map box_of reaches ≡ map (reach_of width height) events

-- a box that nothing rests on
abbrev pub nowhere : Reach
nowhere = record { left = 0; top = 0; right = 0; bottom = 0 }

-- beside each of them is kept whether its event is switched on and it has a pixel
pub record AreWriters (flags : List Bool) (reaches : List Reach) (writers : List Bool) : Type 0 where
  pub number : length writers ≡ length reaches
  pub each : (k : ℕ) → k < length reaches → slice_index_or writers k false
      ≡ (slice_index_or flags k false && not (is_empty (box_of (slice_index_or reaches k nowhere))))
