-- A table without pictures draws what version 2 says.
use Rattle.std.proofs.Common.{arith, ◌≡◌, ℕ, zero, suc, Bool, false, cond, List, [], ◌∷◌, Option, Some, None, slice_get, refl, ap, ◌∙◌}
use Rattle.std.specs.Prelude.{All, IfSome}
use Rattle.std.proofs.lemmas.List.Elements.{All-head, All-tail}
use Rattle.fd_cover.specs.declared.shading.Interp.{Interp}
use Rattle.fd_events.specs.declared.event.Event.{Event}
use Rattle.fd_events.specs.declared.event.Event.TheVariants.{Draw}
use Rattle.fd_events.specs.declared.pipeline.Pipeline.{Pipeline}
use Rattle.fd_events.specs.Draw.{Triangle, triangles_of}
use Rattle.fd_events.specs.Image.{Pixel, is_drawn_by, pixel_after_triangle, pixel_after_triangles, pixel_after_event, pixel_at, image_at, pixels}
use Rattle.fd_events.specs.Table.{Table, is_set, is_of_picture, active, active_event, state_at}
use Rattle.fd_events.specs.VersionTwo as two
use Rattle.fd_events.proofs.Images.{map_same}
use Rattle.fd_events.proofs.VersionOnes.{HaveNoPicture, no_pictures, verdict_plain, source_same}

abbrev pub HaveNone : List Event → Type 0
HaveNone events = All (λ event. is_of_picture event ≡ false) events

abbrev pub HasNone : Option Event → Type 0
HasNone event = IfSome event (λ e. is_of_picture e ≡ false)

none_at : (events : List Event) (n : ℕ) → HaveNone events → HasNone (slice_get events n)
none_at [] n none = tt
none_at (e ∷ events) zero none = All-head (λ (f : Event). is_of_picture f ≡ false) e events none
none_at (e ∷ events) (suc n) none = none_at events n (All-tail (λ (f : Event). is_of_picture f ≡ false) e events none)

if_on : (on : Bool) (event : Option Event) → HasNone event → HasNone (cond on event None)
if_on on event none = grind arith

pub none_active : (events : List Event) (flags : List Bool) (k : ℕ) → HaveNone events → HasNone (active events flags (suc k))
none_active events flags k none = if_on (is_set flags (suc k)) (slice_get events k) (none_at events k none)

pub triangle_same : (t : Triangle) (interp : Interp) (s : Pipeline) (x y : ℕ) (before : Pixel) → t.picture ≡ None
    → pixel_after_triangle t interp s x y before ≡ two.pixel_after_triangle t interp s x y before
triangle_same t interp s x y before plain =
    let drawn = ap is_drawn_by (verdict_plain t s x y before.1 plain) in
    let source = source_same t interp x y plain in
    rw (drawn, source) refl

pub triangles_same : (ts : List Triangle) (interp : Interp) (s : Pipeline) (x y : ℕ) (before : Pixel) → HaveNoPicture ts
    → pixel_after_triangles ts interp s x y before ≡ two.pixel_after_triangles ts interp s x y before
triangles_same [] interp s x y before plain = refl
triangles_same (t ∷ ts) interp s x y before plain =
    triangles_same ts interp s x y (pixel_after_triangle t interp s x y before) (λ i u at. plain (suc i) u at)
    ∙ ap (two.pixel_after_triangles ts interp s x y) (triangle_same t interp s x y before (plain zero t refl))

event_same : (event : Option Event) (s : Pipeline) (x y : ℕ) (before : Pixel) → HasNone event
    → pixel_after_event event s x y before ≡ two.pixel_after_event event s x y before
event_same (Some (Draw draw)) s x y before none = triangles_same (triangles_of draw) draw.interp s x y before (no_pictures draw none)
event_same event s x y before none = refl

pub pixels_same : (t : Table) (k x y : ℕ) → HaveNone t.events → pixel_at t k x y ≡ two.pixel_at t k x y
pixels_same t zero x y none = refl
pixels_same t (suc k) x y none =
    event_same (active_event t (suc k)) (state_at t k) x y (pixel_at t k x y) (none_active t.events t.flags k none)
    ∙ ap (two.pixel_after_event (active_event t (suc k)) (state_at t k) x y) (pixels_same t k x y none)

pub images_same : (t : Table) (k : ℕ) → HaveNone t.events → image_at t k ≡ two.image_at t k
images_same t k none = map_same _ _ (λ (p : ℕ × ℕ). ap (λ (q : Pixel). q.0) (pixels_same t k p.0 p.1 none)) (pixels t.width t.height)
