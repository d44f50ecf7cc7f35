-- Events that write nothing on a place.
use Rattle.std.proofs.Common.{◌≡◌, ℕ, ◌∙◌, List, [], ◌∷◌, length, refl, true, arith, false}
use Rattle.std.proofs.lemmas.Nat.{row_fits}
use Rattle.fd_cover.specs.declared.depth.Func.TheVariants.{Never}
use Rattle.fd_cover.specs.declared.shading.Interp.{Interp}
use Rattle.fd_events.specs.declared.effect.Clear.{Clear}
use Rattle.fd_events.specs.declared.effect.Clear.TheVariants.{Colours, Depths}
use Rattle.fd_events.specs.declared.event.Event.TheVariants.{Draw}
use Rattle.fd_events.specs.Effect.{event_of_clear}
use Rattle.fd_events.specs.declared.pipeline.Pipeline.{Pipeline}
use Rattle.fd_events.specs.Draw.{DrawList, Triangle, triangles_of}
use Rattle.fd_events.specs.Image.{Pixel, is_drawn, pixel_after_triangles, kept_by_triangles}
use Rattle.fd_tile.specs.declared.place.Place.{Place}
use Rattle.fd_tile.specs.Place.{IsTilePlace}
use Rattle.fd_draw.specs.Demand.{event_pixels, pixels_in}
use Rattle.fd_draw.specs.Plan.{AreUnreached, WritesNothing}
use Rattle.fd_draw.proofs.Areas.{drawn_reached}
use Rattle.fd_draw.proofs.Counts.{pixels_in-all}
use Rattle.fd_draw.proofs.Triangles.{pixel_after_triangles-unreached, kept_by_triangles-unreached}

-- a draw none of whose triangles is reached
pub nothing_unreached : (d : DrawList) (s : Pipeline) (p : Place) → AreUnreached (triangles_of d) s p 0 (length (triangles_of d)) → WritesNothing (Draw d) s p
nothing_unreached d s p none x y before held = (
  pixel_after_triangles-unreached (triangles_of d) d.interp s p none x y before held,
  kept_by_triangles-unreached (triangles_of d) d.interp s p none x y before held,
)

-- a draw under a test that no depth passes
module _ (interp : Interp) (s : Pipeline) (enabled : s.depth.enable ≡ true) (never : s.depth.func ≡ Never) (x y : ℕ) where
  undrawn : (t : Triangle) (stored : ℕ) → is_drawn t s x y stored ≡ false
  undrawn t stored = drawn_reached t s x y stored ∙ rw (enabled, never) (grind arith)

  none_drawn : (ts : List Triangle) (before : Pixel) → (pixel_after_triangles ts interp s x y before ≡ before)
      × (kept_by_triangles ts interp s x y before ≡ [])
  none_drawn [] before = (refl, refl)
  none_drawn (t ∷ ts) before = rw (undrawn t before.1) (none_drawn ts before)

pub nothing_passes : (d : DrawList) (s : Pipeline) (p : Place) → s.depth.enable ≡ true → s.depth.func ≡ Never → WritesNothing (Draw d) s p
nothing_passes d s p enabled never x y before held = none_drawn d.interp s enabled never x y (triangles_of d) before

-- a clear is none of them, as a place has a pixel
pub clear_writes : (clear : Clear) (s : Pipeline) (p : Place) → IsTilePlace p → event_pixels (event_of_clear clear) s p ≡ 0 → ⊥
clear_writes clear s p placed none =
    let row = row_fits 0 p.height p.width p.height placed.wide (omega arith) in
    omega (arith, all clear, none, pixels_in-all p, row, placed.high)
  where
    all : (clear : Clear) → event_pixels (event_of_clear clear) s p ≡ pixels_in (λ _ _. true) p
    all (Colours colour) = refl
    all (Depths depth) = refl
