-- Working. The colours of gathered entries, from what the pixel went through.
use Rattle.std.specs.Prelude.{ℕ, zero, suc, ◌+◌, Bool, List, [], ◌∷◌, ◌++◌, drop, slice_index_or, if◌then◌else◌}
use Rattle.fd_blend.specs.declared.channel.Colour.{Colour}
use Rattle.fd_events.specs.Image.{Pixel, fresh_pixel, stored_at, is_drawn_by, kept_after}
use Rattle.fd_events.specs.Table.{Table, active_event, state_at}
use Rattle.fd_history.specs.declared.entry.Entry.{Entry}
use Rattle.fd_history.specs.Gathered.{gathered_of_event}

-- the entries that are gathered of pixel (x, y) up to a position
abbrev pub gathered_at : Table → ℕ → ℕ → ℕ → List Entry
gathered_at t zero x y = []
gathered_at t (suc k) x y = gathered_at t k x y ++ gathered_of_event (suc k) (active_event t (suc k)) (state_at t k) x y (stored_at t k x y)

-- what of pixel (x, y) the event after position k overwrites, behind what was overwritten before
abbrev pub overwritten_past : Table → ℕ → ℕ → ℕ → List Pixel → List Pixel
overwritten_past t k x y pixels = pixels ++ kept_after t k x y

-- all that was overwritten up to a position, in order
abbrev pub overwritten : Table → ℕ → ℕ → ℕ → List Pixel
overwritten t zero x y = []
overwritten t (suc k) x y = overwritten_past t k x y (overwritten t k x y)

-- how many of some entries were drawn
abbrev pub drawn_count : List Entry → ℕ
drawn_count [] = 0
drawn_count (e ∷ es) = (if is_drawn_by e.verdict then 1 else 0) + drawn_count es

abbrev pub first : List Pixel → Pixel
first pixels = slice_index_or pixels 0 fresh_pixel

-- what is left behind an entry
abbrev pub behind : Bool → List Pixel → List Pixel
behind drawn pixels = if drawn then drop 1 pixels else pixels

-- an entry between two colours
abbrev pub entry_between : Entry → Colour → Colour → Entry
entry_between e before after = record {
  event = e.event;
  triangle = e.triangle;
  verdict = e.verdict;
  source = e.source;
  before = before;
  after = after;
  source_depth = e.source_depth;
  depth_before = e.depth_before;
  depth_after = e.depth_after;
}

-- The pixel has the first colour at first, and each entry that was drawn leads to the next one.
abbrev pub settled : List Entry → List Pixel → List Entry
settled [] pixels = []
settled (e ∷ es) pixels = entry_between e (first pixels).0 (first (behind (is_drawn_by e.verdict) pixels)).0 ∷ settled es
    (behind (is_drawn_by e.verdict) pixels)
