-- Promised. The history of a pixel in captures of version 2, which know no pictures: as it was defined before there were any. None is looked at.
use Rattle.std.specs.Prelude.{ℕ, zero, suc, ◌+◌, List, [], ◌∷◌, ◌++◌, Option, Some, None, if◌then◌else◌}
use Rattle.fd_cover.specs.declared.shading.Interp.{Interp}
use Rattle.fd_cover.specs.declared.verdict.Verdict.{Verdict}
use Rattle.fd_cover.specs.Verdict.{verdict_at}
use Rattle.fd_events.specs.declared.event.Event.{Event}
use Rattle.fd_events.specs.declared.event.Event.TheVariants.{Clear, DepthClear, Draw}
use Rattle.fd_events.specs.declared.pipeline.Pipeline.{Pipeline}
use Rattle.fd_events.specs.Draw.{Triangle, triangles_of}
use Rattle.fd_events.specs.Image.{Pixel, depth_of}
use Rattle.fd_events.specs.Table.{Table, active_event, state_at}
use Rattle.fd_events.specs.VersionOne.{source_of}
use Rattle.fd_events.specs.VersionTwo.{pixel_after_triangle, pixel_at}
use Rattle.fd_history.specs.declared.entry.Entry.{Entry}
use Rattle.fd_history.specs.History.{entry_of, entry_of_clear, entry_of_depth_clear, is_missed}

-- what becomes of a triangle at pixel (x, y) in a state, where the pixel has a stored depth
abbrev pub verdict_of : Triangle → Pipeline → ℕ → ℕ → ℕ → Verdict
verdict_of t s x y stored = verdict_at t.corners t.depths s.raster s.scissor s.depth stored x y

-- a triangle of this number in its draw
abbrev pub entry_of_triangle : ℕ → ℕ → Triangle → Interp → Pipeline → ℕ → ℕ → Pixel → Entry
entry_of_triangle event number t interp s x y before =
    entry_of event (Some number) (verdict_of t s x y before.1) (source_of t interp x y, depth_of t x y) before (pixel_after_triangle t interp s x y before)

-- a triangle that doesn't cover the pixel leaves no entry
abbrev pub entries_of_triangle : ℕ → ℕ → Triangle → Interp → Pipeline → ℕ → ℕ → Pixel → List Entry
entries_of_triangle event number t interp s x y before =
    if is_missed (verdict_of t s x y before.1) then [] else entry_of_triangle event number t interp s x y before ∷ []

-- the triangles of a draw from this number on, in their order
abbrev pub entries_of_triangles : ℕ → ℕ → List Triangle → Interp → Pipeline → ℕ → ℕ → Pixel → List Entry
entries_of_triangles event number [] interp s x y before = []
entries_of_triangles event number (t ∷ ts) interp s x y before =
    entries_of_triangle event number t interp s x y before ++ entries_of_triangles event (number + 1) ts interp s x y
    (pixel_after_triangle t interp s x y before)

-- an event of this number in a state, where the pixel was this before it
abbrev pub entries_of : ℕ → Event → Pipeline → ℕ → ℕ → Pixel → List Entry
entries_of number (Clear colour) s x y before = entry_of_clear number colour before ∷ []
entries_of number (DepthClear depth) s x y before = entry_of_depth_clear number depth before ∷ []
entries_of number (Draw draw) s x y before = entries_of_triangles number 0 (triangles_of draw) draw.interp s x y before
entries_of number other s x y before = []

-- an event that is missing or switched off leaves no entry
abbrev pub entries_of_event : ℕ → Option Event → Pipeline → ℕ → ℕ → Pixel → List Entry
entries_of_event number None s x y before = []
entries_of_event number (Some event) s x y before = entries_of number event s x y before

-- the history of pixel (x, y) at a position: the entries of each event up to it, in order, from what the pixel was before that event
abbrev pub history_at : Table → ℕ → ℕ → ℕ → List Entry
history_at t zero x y = []
history_at t (suc k) x y = history_at t k x y ++ entries_of_event (suc k) (active_event t (suc k)) (state_at t k) x y (pixel_at t k x y)
