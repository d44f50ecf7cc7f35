-- What is kept of a pixel by an event is what its entries were drawn over.
use Rattle.std.proofs.Common.{◌≡◌, ℕ, suc, ◌+◌, List, [], ◌∷◌, ◌++◌, Option, Some, refl, arith, if◌then◌else◌}
use Rattle.std.proofs.lemmas.List.{map-append}
use Rattle.std.proofs.lemmas.List.Elements.{filter-append}
use Rattle.fd_cover.specs.declared.shading.Interp.{Interp}
use Rattle.fd_cover.specs.declared.verdict.Verdict.{Verdict}
use Rattle.fd_cover.specs.declared.verdict.Verdict.TheVariants.{Missed}
use Rattle.fd_events.specs.declared.event.Event.{Event}
use Rattle.fd_events.specs.declared.event.Event.TheVariants.{Draw}
use Rattle.fd_events.specs.declared.pipeline.Pipeline.{Pipeline}
use Rattle.fd_events.specs.Draw.{Triangle, triangles_of}
use Rattle.fd_events.specs.Image.{Pixel, verdict_of, pixel_at, pixel_after_triangle, source_of, depth_of, is_drawn_by, kept_by_triangles, kept_by_event}
use Rattle.fd_events.specs.Table.{active_event, state_at}
use Rattle.fd_history.specs.declared.entry.Entry.{Entry}
use Rattle.fd_history.specs.History.{is_missed, entry_of, entries_of_triangle, entries_of_triangles, entries_of_event}
use Rattle.fd_history.specs.Chain.{drawn_over, KeptIsDrawnOver}

pub drawn_over-append : (first second : List Entry) → drawn_over (first ++ second) ≡ drawn_over first ++ drawn_over second
drawn_over-append first second = grind (arith, filter-append, map-append)

-- one triangle, whatever its verdict
one_kept : (v : Verdict) (event number : ℕ) (source before after : Pixel)
    → (if is_drawn_by v then before ∷ [] else [])
    ≡ drawn_over (if is_missed v then [] else entry_of event (Some number) v source before after ∷ [])
one_kept Missed event number source before after = refl
one_kept other event number source before after = refl

triangles_kept : (event number : ℕ) (ts : List Triangle) (interp : Interp) (s : Pipeline) (x y : ℕ) (before : Pixel)
    → kept_by_triangles ts interp s x y before ≡ drawn_over (entries_of_triangles event number ts interp s x y before)
triangles_kept event number [] interp s x y before = refl
triangles_kept event number (t ∷ ts) interp s x y before =
    let after = pixel_after_triangle t interp s x y before in
    cc (
      one_kept (verdict_of t s x y before.1) event number (source_of t interp x y, depth_of t x y) before after,
      triangles_kept event (number + 1) ts interp s x y after,
      drawn_over-append (entries_of_triangle event number t interp s x y before) (entries_of_triangles event (number + 1) ts interp s x y after),
    )

event_kept : (number : ℕ) (event : Option Event) (s : Pipeline) (x y : ℕ) (before : Pixel)
    → kept_by_event event s x y before ≡ drawn_over (entries_of_event number event s x y before)
event_kept number (Some (Draw draw)) s x y before = triangles_kept number 0 (triangles_of draw) draw.interp s x y before
event_kept number other s x y before = refl

pub kept_is_drawn_over : KeptIsDrawnOver
kept_is_drawn_over t k x y = event_kept (suc k) (active_event t (suc k)) (state_at t k) x y (pixel_at t k x y)
