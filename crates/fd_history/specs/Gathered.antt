-- Working. Entries whose colours before and after are not known yet: their sources stand for both. Their depths are known.
use Rattle.std.specs.Prelude.{◌≡◌, ℕ, ◌+◌, List, [], ◌∷◌, ◌++◌, Option, Some, None, if◌then◌else◌}
use Rattle.fd_blend.specs.Channel.{fresh}
use Rattle.fd_cover.specs.declared.shading.Interp.{Interp}
use Rattle.fd_cover.specs.declared.verdict.Verdict.TheVariants.{Drawn}
use Rattle.fd_cover.specs.Depth.{stored_past}
use Rattle.fd_events.specs.declared.event.Event.{Event}
use Rattle.fd_events.specs.declared.event.Event.TheVariants.{Clear, DepthClear, Draw}
use Rattle.fd_events.specs.declared.pipeline.Pipeline.{Pipeline}
use Rattle.fd_events.specs.Draw.{Triangle, triangles_of}
use Rattle.fd_events.specs.Image.{Pixel, verdict_of, source_of, depth_of, is_drawn}
use Rattle.fd_history.specs.declared.entry.Entry.{Entry}
use Rattle.fd_history.specs.History.{entry_of, is_missed, entries_of}

-- ---- a pixel's depth, which no colour changes

-- after a triangle
abbrev pub depth_after_triangle : Triangle → Pipeline → ℕ → ℕ → ℕ → ℕ
depth_after_triangle t s x y depth = if is_drawn t s x y depth then stored_past s.depth (depth_of t x y) depth else depth

abbrev pub depth_after_triangles : List Triangle → Pipeline → ℕ → ℕ → ℕ → ℕ
depth_after_triangles [] s x y depth = depth
depth_after_triangles (t ∷ ts) s x y depth = depth_after_triangles ts s x y (depth_after_triangle t s x y depth)

-- after an event
abbrev pub depth_after : Event → Pipeline → ℕ → ℕ → ℕ → ℕ
depth_after (DepthClear stored) s x y depth = stored
depth_after (Draw draw) s x y depth = depth_after_triangles (triangles_of draw) s x y depth
depth_after other s x y depth = depth

-- after one that may be missing or switched off
abbrev pub depth_after_event : Option Event → Pipeline → ℕ → ℕ → ℕ → ℕ
depth_after_event None s x y depth = depth
depth_after_event (Some event) s x y depth = depth_after event s x y depth

-- ---- entries, where the pixel has this depth before them

-- a triangle of this number in its draw
abbrev pub gathered_entry : ℕ → ℕ → Triangle → Interp → Pipeline → ℕ → ℕ → ℕ → Entry
gathered_entry event number t interp s x y depth =
    entry_of event (Some number) (verdict_of t s x y depth) (source_of t interp x y, depth_of t x y) (source_of t interp x y, depth)
    (source_of t interp x y, depth_after_triangle t s x y depth)

abbrev pub gathered_of_triangle : ℕ → ℕ → Triangle → Interp → Pipeline → ℕ → ℕ → ℕ → List Entry
gathered_of_triangle event number t interp s x y depth =
    if is_missed (verdict_of t s x y depth) then [] else gathered_entry event number t interp s x y depth ∷ []

-- the triangles of a draw from this number on
abbrev pub gathered_of_triangles : ℕ → ℕ → List Triangle → Interp → Pipeline → ℕ → ℕ → ℕ → List Entry
gathered_of_triangles event number [] interp s x y depth = []
gathered_of_triangles event number (t ∷ ts) interp s x y depth =
    gathered_of_triangle event number t interp s x y depth ++ gathered_of_triangles event (number + 1) ts interp s x y (depth_after_triangle t s x y depth)

-- an event of this number
abbrev pub gathered_of : ℕ → Event → Pipeline → ℕ → ℕ → ℕ → List Entry
gathered_of number (Clear colour) s x y depth = entry_of number None Drawn (colour, 0) (colour, depth) (colour, depth) ∷ []
gathered_of number (DepthClear stored) s x y depth = entry_of number None Drawn (fresh, stored) (fresh, depth) (fresh, stored) ∷ []
gathered_of number (Draw draw) s x y depth = gathered_of_triangles number 0 (triangles_of draw) draw.interp s x y depth
gathered_of number other s x y depth = []

-- one that may be missing or switched off
abbrev pub gathered_of_event : ℕ → Option Event → Pipeline → ℕ → ℕ → ℕ → List Entry
gathered_of_event number None s x y depth = []
gathered_of_event number (Some event) s x y depth = gathered_of number event s x y depth

-- ---- on the way

-- a pixel, its depth, and the entries that were gathered of it
pub record Gathering : Type 0 where
  pub x : ℕ
  pub y : ℕ
  pub depth : ℕ
  pub entries : List Entry

-- the depth is another one, and there are more entries
abbrev pub gone_on : Gathering → ℕ → List Entry → Gathering
gone_on g depth more = record { x = g.x; y = g.y; depth = depth; entries = g.entries ++ more }

-- one triangle on
abbrev pub past_triangle : ℕ → ℕ → Triangle → Interp → Pipeline → Gathering → Gathering
past_triangle event number t interp s g = gone_on g (depth_after_triangle t s g.x g.y g.depth) (gathered_of_triangle event number t interp s g.x g.y g.depth)

-- these triangles on
abbrev pub past_triangles : ℕ → ℕ → List Triangle → Interp → Pipeline → Gathering → Gathering
past_triangles event number ts interp s g = gone_on g (depth_after_triangles ts s g.x g.y g.depth)
    (gathered_of_triangles event number ts interp s g.x g.y g.depth)

-- one event on
abbrev pub past_event : ℕ → Event → Pipeline → Gathering → Gathering
past_event number event s g = gone_on g (depth_after event s g.x g.y g.depth) (gathered_of number event s g.x g.y g.depth)

-- one event on, which may be missing or switched off
abbrev pub past_number : ℕ → Option Event → Pipeline → Gathering → Gathering
past_number number event s g = gone_on g (depth_after_event event s g.x g.y g.depth) (gathered_of_event number event s g.x g.y g.depth)

-- an event that has no entry at pixel (x, y), whatever its number and the state
abbrev pub EntersNothing : Event → ℕ → ℕ → Type 0
EntersNothing event x y = (number : ℕ) (s : Pipeline) (before : Pixel) → entries_of number event s x y before ≡ []
