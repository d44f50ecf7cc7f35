-- Promised. What captures of version 2 draw, which know no pictures: as it was defined before there were any. Pictures are never looked at.
use Rattle.std.specs.Prelude.{◌≡◌, All, ℕ, zero, suc, Bool, false, List, [], ◌∷◌, map, Option, Some, None, if◌then◌else◌}
use Rattle.fd_blend.specs.declared.channel.Colour.{Colour}
use Rattle.fd_blend.specs.Blend.{blend}
use Rattle.fd_cover.specs.declared.shading.Interp.{Interp}
use Rattle.fd_cover.specs.Depth.{stored_past}
use Rattle.fd_cover.specs.Verdict.{verdict_at}
use Rattle.fd_events.specs.declared.event.Event.{Event}
use Rattle.fd_events.specs.declared.event.Event.TheVariants.{Clear, DepthClear, Draw}
use Rattle.fd_events.specs.declared.pipeline.Pipeline.{Pipeline}
use Rattle.fd_events.specs.Draw.{Triangle, triangles_of}
use Rattle.fd_events.specs.Image.{Pixel, fresh_pixel, is_drawn_by, depth_of, pixels}
use Rattle.fd_events.specs.Image as now
use Rattle.fd_events.specs.Table.{Table, active_event, state_at, is_of_picture}
use Rattle.fd_events.specs.VersionOne.{source_of}

abbrev pub is_drawn : Triangle → Pipeline → ℕ → ℕ → ℕ → Bool
is_drawn t s x y stored = is_drawn_by (verdict_at t.corners t.depths s.raster s.scissor s.depth stored x y)

abbrev pub pixel_drawn : Triangle → Interp → Pipeline → ℕ → ℕ → Pixel → Pixel
pixel_drawn t interp s x y before = (blend s.blend s.factor (source_of t interp x y) before.0, stored_past s.depth (depth_of t x y) before.1)

abbrev pub pixel_after_triangle : Triangle → Interp → Pipeline → ℕ → ℕ → Pixel → Pixel
pixel_after_triangle t interp s x y before = if is_drawn t s x y before.1 then pixel_drawn t interp s x y before else before

abbrev pub pixel_after_triangles : List Triangle → Interp → Pipeline → ℕ → ℕ → Pixel → Pixel
pixel_after_triangles [] interp s x y before = before
pixel_after_triangles (t ∷ ts) interp s x y before = pixel_after_triangles ts interp s x y (pixel_after_triangle t interp s x y before)

abbrev pub pixel_after : Event → Pipeline → ℕ → ℕ → Pixel → Pixel
pixel_after (Clear colour) s x y before = (colour, before.1)
pixel_after (DepthClear depth) s x y before = (before.0, depth)
pixel_after (Draw draw) s x y before = pixel_after_triangles (triangles_of draw) draw.interp s x y before
pixel_after other s x y before = before

abbrev pub pixel_after_event : Option Event → Pipeline → ℕ → ℕ → Pixel → Pixel
pixel_after_event None s x y before = before
pixel_after_event (Some event) s x y before = pixel_after event s x y before

abbrev pub pixel_at : Table → ℕ → ℕ → ℕ → Pixel
pixel_at t zero x y = fresh_pixel
pixel_at t (suc k) x y = pixel_after_event (active_event t (suc k)) (state_at t k) x y (pixel_at t k x y)

abbrev pub image_at : Table → ℕ → List Colour
image_at t k = map (λ p. (pixel_at t k p.0 p.1).0) (pixels t.width t.height)

-- a table without pictures has at each position the image that it had before there were any
abbrev pub DrawsAsVersionTwo : Type 0
DrawsAsVersionTwo = (t : Table) (k : ℕ) → All (λ event. is_of_picture event ≡ false) t.events → now.image_at t k ≡ image_at t k
