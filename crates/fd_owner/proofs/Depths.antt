-- The depths that an event overwrites which writes none, or none but the greatest.
use Rattle.std.proofs.lemmas.Bool.Decides.{nat_tests}
use Rattle.std.proofs.Common.{◌≡◌, ℕ, suc, Bool, true, false, List, [], ◌∷◌, refl, sym, ap, ◌∙◌, arith}
use Rattle.std.specs.Prelude.{All, ◌&&◌, ◌==◌, if◌then◌else◌}
use Rattle.std.proofs.lemmas.List.Elements.{All-nil, All-cons, All-append}
use Rattle.fd_cover.specs.declared.shading.Interp.{Interp}
use Rattle.fd_tile.specs.declared.place.Place.{Place}
use Rattle.fd_tile.specs.Place.{Holds}
use Rattle.fd_tile.specs.Tile.{Pixel, TileImage, IsTileImage, IsFlat, pixel_of}
use Rattle.fd_undo.specs.Frame.{KeptPixel, kept_at, top, FitDepths}
use Rattle.fd_undo.specs.Undo.{Undo}
use Rattle.fd_undo.proofs.Pixelwise.{value_in-same}
use Rattle.fd_undo.proofs.Restored.{Inside}
use Rattle.fd_events.specs.declared.event.Event.{Event}
use Rattle.fd_events.specs.declared.event.Event.TheVariants.{Clear, DepthClear, Draw}
use Rattle.fd_events.specs.declared.pipeline.Pipeline.{Pipeline}
use Rattle.fd_events.specs.Draw.{Triangle, triangles_of}
use Rattle.fd_events.specs.Image.{depth_of, is_drawn, kept_by, kept_by_triangles, pixel_after, pixel_after_triangle, pixel_drawn}
use Rattle.fd_draw.specs.Demand.{writes_deep}
use Rattle.fd_draw.specs.Paints.{Paints}
use Rattle.fd_owner.proofs.Pictures.{shallow}

-- ---- one pixel
either : (b : Bool) (drawn before : Pixel) → drawn.1 ≡ before.1 → (if b then drawn else before).1 ≡ before.1
either true drawn before same = same
either false drawn before same = refl

-- a pixel that a triangle draws keeps its depth
depth_stays : (t : Triangle) (interp : Interp) (s : Pipeline) (x y : ℕ) (before : Pixel) → (s.depth.enable && s.depth.write) ≡ false
    → (pixel_after_triangle t interp s x y before).1 ≡ before.1
depth_stays t interp s x y before off =
    either (is_drawn t s x y before.1) (pixel_drawn t interp s x y before) before (ap (λ (b : Bool). if b then depth_of t x y else before.1) off)

-- so all that triangles overwrite there has it
kept_once : (b : Bool) (before : Pixel) (depth : ℕ) → before.1 ≡ depth → All (λ q. q.1 ≡ depth) (if b then before ∷ [] else [])
kept_once true before depth is = All-cons (λ (q : Pixel). q.1 ≡ depth) before [] is (All-nil (λ (q : Pixel). q.1 ≡ depth))
kept_once false before depth is = All-nil (λ (q : Pixel). q.1 ≡ depth)

kept_alike : (ts : List Triangle) (interp : Interp) (s : Pipeline) (x y : ℕ) (before : Pixel) (depth : ℕ) → (s.depth.enable && s.depth.write) ≡ false
    → before.1 ≡ depth → All (λ q. q.1 ≡ depth) (kept_by_triangles ts interp s x y before)
kept_alike [] interp s x y before depth off is = All-nil (λ (q : Pixel). q.1 ≡ depth)
kept_alike (t ∷ ts) interp s x y before depth off is =
    All-append (λ (q : Pixel). q.1 ≡ depth) (if is_drawn t s x y before.1 then before ∷ [] else [])
    (kept_by_triangles ts interp s x y (pixel_after_triangle t interp s x y before)) (kept_once (is_drawn t s x y before.1) before depth is)
    (kept_alike ts interp s x y (pixel_after_triangle t interp s x y before) depth off (depth_stays t interp s x y before off ∙ is))

kept_depths : (event : Event) (s : Pipeline) (x y : ℕ) (before : Pixel) (depth : ℕ) → writes_deep event s ≡ false → before.1 ≡ depth
    → All (λ q. q.1 ≡ depth) (kept_by event s x y before)
kept_depths (Clear colour) s x y before depth off is = kept_once true before depth is
kept_depths (DepthClear d) s x y before depth off is = kept_once true before depth is
kept_depths (Draw draw) s x y before depth off is = kept_alike (triangles_of draw) draw.interp s x y before depth off is
kept_depths other s x y before depth off is = All-nil (λ (q : Pixel). q.1 ≡ depth)

-- ---- what a frame keeps, pixel by pixel
tail : (b : Bool) (q : Pixel) (qs : List Pixel) (depth : ℕ) → All (λ p. p.1 ≡ depth) (if b then q ∷ qs else qs) → All (λ p. p.1 ≡ depth) qs
tail true q qs depth all = λ i d below. all (suc i) d (omega (arith, below))
tail false q qs depth all = all

first : (k : KeptPixel) (ks : List KeptPixel) (depth : ℕ) → All (λ q. q.1 ≡ depth) (kept_at (k ∷ ks) k.x k.y) → k.pixel.1 ≡ depth
first k ks depth all =
    let is : kept_at (k ∷ ks) k.x k.y ≡ k.pixel ∷ kept_at ks k.x k.y = grind (arith, nat_tests) in
    (rw is at all) 0 k.pixel (omega arith)

each_kept : (p : Place) (ks : List KeptPixel) (depth : ℕ) → Inside p ks
    → ((x y : ℕ) → Holds p x y → All (λ q. q.1 ≡ depth) (kept_at ks x y)) → All (λ k. k.pixel.1 ≡ depth) ks
each_kept p [] depth inside all = All-nil (λ (k : KeptPixel). k.pixel.1 ≡ depth)
each_kept p (k ∷ ks) depth inside all =
    All-cons (λ (l : KeptPixel). l.pixel.1 ≡ depth) k ks (first k ks depth (all k.x k.y (inside 0 k (omega arith))))
    (each_kept p ks depth (λ i d below. inside (suc i) d (omega (arith, below)))
    (λ x y held. tail ((k.x == x) && (k.y == y)) k.pixel (kept_at ks x y) depth (all x y held)))

-- a frame that was empty has depths with a place
pub fit_drawn : (event : Event) (s : Pipeline) (t t' : TileImage) (u u' : Undo) → IsTileImage t → top u.frames ≡ []
    → (writes_deep event s ≡ true → t.deep ≡ true) → (t.deep ≡ false → IsFlat t.place t.depths 65535)
    → Paints (pixel_after event s) (kept_by event s) t u t' u' → FitDepths t'.deep (top u'.frames)
fit_drawn event s t t' u u' filled none deep flat painted = record {
  greatest = λ not.
      let not_deep : t.deep ≡ false = sym painted.deep ∙ not in
      let off : writes_deep event s ≡ false = shallow (writes_deep event s) t.deep deep not_deep in
      let inside = painted.inside (rw none (All-nil (λ (k : KeptPixel). Holds t.place k.x k.y))) in
      each_kept t.place (top u'.frames) 65535 inside (λ x y held.
      let kept : kept_at (top u'.frames) x y ≡ kept_by event s x y (pixel_of t x y) = painted.kept x y held ∙ rw none refl in
      rw kept (kept_depths event s x y (pixel_of t x y) 65535 off
      (value_in-same t.place t.depths 65535 65535 x y filled.depths (flat not_deep) held)));
}
