-- The history of a pixel of a table without pictures is that of version 2.
use Rattle.std.proofs.Common.{◌≡◌, ℕ, zero, suc, ◌+◌, List, [], ◌∷◌, ◌++◌, cond, Option, Some, None, refl, ap, ◌∙◌}
use Rattle.fd_blend.specs.declared.channel.Colour.{Colour}
use Rattle.fd_cover.specs.declared.shading.Interp.{Interp}
use Rattle.fd_cover.specs.declared.verdict.Verdict.{Verdict}
use Rattle.fd_events.specs.declared.event.Event.{Event}
use Rattle.fd_events.specs.declared.event.Event.TheVariants.{Draw}
use Rattle.fd_events.specs.declared.pipeline.Pipeline.{Pipeline}
use Rattle.fd_events.specs.Draw.{Triangle, triangles_of}
use Rattle.fd_events.specs.Image.{Pixel, source_of, depth_of, pixel_after_triangle, pixel_at}
use Rattle.fd_events.specs.Table.{Table, active_event, state_at}
use Rattle.fd_events.specs.VersionOne as first
use Rattle.fd_events.proofs.VersionOnes.{HaveNoPicture, no_pictures, verdict_plain, source_same}
use Rattle.fd_events.proofs.VersionTwos.{HaveNone, HasNone, none_active, triangle_same, pixels_same}
use Rattle.fd_history.specs.declared.entry.Entry.{Entry}
use Rattle.fd_history.specs.History.{entry_of, is_missed, entries_of_triangle, entries_of_triangles, entries_of_event, history_at}
use Rattle.fd_history.specs.VersionTwo as two

-- one that is not missed, of these parts
abbrev unless_missed : ℕ → ℕ → Verdict → Colour → ℕ → Pixel → Pixel → List Entry
unless_missed event number verdict source depth before after =
    cond (is_missed verdict) [] (entry_of event (Some number) verdict (source, depth) before after ∷ [])

triangle_entries : (event number : ℕ) (t : Triangle) (interp : Interp) (s : Pipeline) (x y : ℕ) (before : Pixel) → t.picture ≡ None
    → entries_of_triangle event number t interp s x y before ≡ two.entries_of_triangle event number t interp s x y before
triangle_entries event number t interp s x y before plain =
    let depth = depth_of t x y in
    let after = pixel_after_triangle t interp s x y before in
    ap (λ v. unless_missed event number v (source_of t interp x y) depth before after) (verdict_plain t s x y before.1 plain)
    ∙ ap (λ c. unless_missed event number (two.verdict_of t s x y before.1) c depth before after) (source_same t interp x y plain)
    ∙ ap (unless_missed event number (two.verdict_of t s x y before.1) (first.source_of t interp x y) depth before)
    (triangle_same t interp s x y before plain)

triangles_entries : (event number : ℕ) (ts : List Triangle) (interp : Interp) (s : Pipeline) (x y : ℕ) (before : Pixel) → HaveNoPicture ts
    → entries_of_triangles event number ts interp s x y before ≡ two.entries_of_triangles event number ts interp s x y before
triangles_entries event number [] interp s x y before plain = refl
triangles_entries event number (t ∷ ts) interp s x y before plain =
    let none : t.picture ≡ None = plain zero t refl in
    let after = pixel_after_triangle t interp s x y before in
    ap (λ es. es ++ entries_of_triangles event (number + 1) ts interp s x y after) (triangle_entries event number t interp s x y before none)
    ∙ ap (λ es. two.entries_of_triangle event number t interp s x y before ++ es)
    (triangles_entries event (number + 1) ts interp s x y after (λ i u at. plain (suc i) u at)
    ∙ ap (two.entries_of_triangles event (number + 1) ts interp s x y) (triangle_same t interp s x y before none))

event_entries : (number : ℕ) (event : Option Event) (s : Pipeline) (x y : ℕ) (before : Pixel) → HasNone event
    → entries_of_event number event s x y before ≡ two.entries_of_event number event s x y before
event_entries number (Some (Draw draw)) s x y before none = triangles_entries number 0 (triangles_of draw) draw.interp s x y before (no_pictures draw none)
event_entries number event s x y before none = refl

pub histories_same : (t : Table) (k x y : ℕ) → HaveNone t.events → history_at t k x y ≡ two.history_at t k x y
histories_same t zero x y none = refl
histories_same t (suc k) x y none =
    let event = active_event t (suc k) in
    let s = state_at t k in
    ap (λ es. es ++ entries_of_event (suc k) event s x y (pixel_at t k x y)) (histories_same t k x y none)
    ∙ ap (λ es. two.history_at t k x y ++ es)
    (event_entries (suc k) event s x y (pixel_at t k x y) (none_active t.events t.flags k none)
    ∙ ap (two.entries_of_event (suc k) event s x y) (pixels_same t k x y none))
