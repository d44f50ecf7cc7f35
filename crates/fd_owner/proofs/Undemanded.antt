-- An event that demands no pixel of a place writes nothing there.
use Rattle.std.proofs.Common.{◌≡◌, ℕ, zero, suc, ◌+◌, ◌<◌, ◌≤◌, inl, inr, Bool, true, false, cond, List, [], ◌∷◌, Some}
use Rattle.std.proofs.Common.{refl, sym, ap, arith, slice_get}
use Rattle.std.specs.List.{sum_by}
use Rattle.std.proofs.lemmas.Bool.{cases_lt}
use Rattle.std.proofs.lemmas.List.Sums.{sum_by-cons}
use Rattle.fd_tile.specs.declared.place.Place.{Place}
use Rattle.fd_tile.specs.Place.{Holds}
use Rattle.fd_tile.specs.Tile.{Pixel, TileImage, IsTileImage}
use Rattle.fd_undo.specs.Undo.{Undo}
use Rattle.fd_events.specs.declared.event.Event.{Event}
use Rattle.fd_events.specs.declared.event.Event.TheVariants.{Clear, DepthClear, Draw}
use Rattle.fd_events.specs.declared.pipeline.Pipeline.{Pipeline}
use Rattle.fd_events.specs.Draw.{Triangle, triangles_of}
use Rattle.fd_events.specs.Image.{pixel_after, kept_by}
use Rattle.fd_draw.specs.Demand.{is_reached, total, written_in_row, pixels_in, triangle_pixels, event_pixels}
use Rattle.fd_draw.specs.Paints.{Paints}
use Rattle.fd_draw.proofs.Painting.{Paints-same, Paints-nothing}
use Rattle.fd_draw.specs.Plan.{IsUnreached, WritesNothing}
use Rattle.fd_draw.proofs.Nothing.{nothing_unreached}

-- numbers that add up to nothing are each nothing
each_nothing : (f : ℕ → ℕ) (a n k : ℕ) → total f a n ≡ 0 → a ≤ k → k < a + n → f k ≡ 0
each_nothing f a zero k none low high = absurd (omega (arith, low, high))
each_nothing f a (suc n) k none low high = elim (cases_lt a k) [
  | inl past ↦ each_nothing f (a + 1) n k (omega arith) (omega arith) (omega arith)
  | inr upto ↦ let same : k ≡ a = omega arith in rw same (omega arith)
]

-- where no pixel is counted none is written
uncounted : (written : ℕ → ℕ → Bool) (p : Place) (x y : ℕ) → pixels_in written p ≡ 0 → Holds p x y → written x y ≡ false
uncounted written p x y none held =
    let row = each_nothing (written_in_row written p) p.top p.height y none held.from_top held.to_bottom in
    let pixel = each_nothing (λ column. cond (written column y) 1 0) p.left p.width x row held.from_left held.to_right in
    grind arith

-- triangles that demand no pixel are not drawn
undemanded : (ts : List Triangle) (s : Pipeline) (p : Place) → sum_by (triangle_pixels s p) ts ≡ 0
    → (i : ℕ) (t : Triangle) → slice_get ts i ≡ Some t → IsUnreached t s p
undemanded [] s p none i t at x y held = cc
undemanded (first ∷ ts) s p none zero t at x y held =
    let parts = sum_by-cons (triangle_pixels s p) first ts in
    let same : first ≡ t = cc in
    let alike : triangle_pixels s p first ≡ triangle_pixels s p t = ap (triangle_pixels s p) same in
    uncounted (is_reached t s) p x y (omega (arith, none, parts, alike)) held
undemanded (first ∷ ts) s p none (suc i) t at x y held =
    undemanded ts s p (omega (arith, none, sum_by-cons (triangle_pixels s p) first ts)) i t at x y held

-- a place has a pixel, so a clear demands some
clear_demands : (p : Place) (x y : ℕ) → Holds p x y → pixels_in (λ x y. true) p ≡ 0 → ⊥
clear_demands p x y held none =
    let unwritten : true ≡ false = uncounted (λ x y. true) p x y none held in
    cc unwritten

pub nothing_demanded : (event : Event) (s : Pipeline) (p : Place) → event_pixels event s p ≡ 0 → WritesNothing event s p
nothing_demanded (Clear colour) s p none = λ x y before held. absurd (clear_demands p x y held none)
nothing_demanded (DepthClear depth) s p none = λ x y before held. absurd (clear_demands p x y held none)
nothing_demanded (Draw draw) s p none =
    nothing_unreached draw s p (λ i t from to at. undemanded (triangles_of draw) s p none i t at)
nothing_demanded other s p none = λ x y before held. (refl, refl)

-- drawing nothing is drawing it
pub Paints-undemanded : (event : Event) (s : Pipeline) (t : TileImage) (u : Undo) → IsTileImage t → u.frame_left ≡ false → event_pixels event s t.place ≡ 0
    → Paints (pixel_after event s) (kept_by event s) t u t u
Paints-undemanded event s t u filled begun none =
    let nothing = nothing_demanded event s t.place none in
    Paints-same (λ x y held. sym (nothing x y _ held).0) (λ x y held. sym (nothing x y _ held).1) (Paints-nothing filled begun)

-- a stack with other room is as good
pub Paints-over : {after : ℕ → ℕ → Pixel → Pixel} {replaced : ℕ → ℕ → Pixel → List Pixel} {t t' : TileImage} {u v u' : Undo} → v.frames ≡ u.frames
    → v.opens_fresh ≡ u.opens_fresh → Paints after replaced t u t' u' → Paints after replaced t v t' u'
Paints-over frames opening is = record {
  placed = is.placed;
  made = is.made;
  deep = is.deep;
  filled = is.filled;
  below = rw frames is.below;
  begun = is.begun;
  opening = rw opening is.opening;
  some = rw frames is.some;
  pixels = is.pixels;
  kept = rw frames is.kept;
  inside = rw frames is.inside;
}
