-- Working. How much the next event writes on a place, and what it makes of a tile.
use Rattle.std.specs.Prelude.{◌≡◌, ℕ, suc, ◌+◌, ◌^◌, ◌<◌, [], ◌∷◌, ◌++◌, length, Option, Some, None, Result, IsOk, OnOk, OnErr, true, false}
use Rattle.fd_tile.specs.declared.place.Place.{Place}
use Rattle.fd_tile.specs.Tile.{TileImage}
use Rattle.fd_undo.specs.Frame.{IsAlike, FitDepths, top}
use Rattle.fd_undo.specs.Undo.{Undo, without_room}
use Rattle.fd_events.specs.declared.event.Event.{Event}
use Rattle.fd_events.specs.declared.pipeline.Pipeline.{Pipeline}
use Rattle.fd_events.specs.Image.{pixel_after, kept_by}
use Rattle.fd_events.specs.Table.{Table, active_event, event_at, flag_at, state_at}
use Rattle.fd_draw.specs.Demand.{event_spans, event_pixels}
use Rattle.fd_draw.specs.Paints.{Paints}
use Rattle.fd_memory.specs.Wanting.{Wanted}

-- the spans that an event writes, which is none where it is missing or switched off
abbrev pub spans_of : Option Event → Pipeline → Place → ℕ
spans_of None s place = 0
spans_of (Some event) s place = event_spans event s place

-- the pixels that it writes
abbrev pub pixels_written : Option Event → Pipeline → Place → ℕ
pixels_written None s place = 0
pixels_written (Some event) s place = event_pixels event s place

-- the spans and the pixels that the event after position k writes
abbrev pub spans_past : Table → ℕ → Place → ℕ
spans_past table k place = spans_of (active_event table (suc k)) (state_at table k) place

abbrev pub pixels_past : Table → ℕ → Place → ℕ
pixels_past table k place = pixels_written (active_event table (suc k)) (state_at table k) place

-- the event after position k is this one, which is switched on, and this is the state before it
pub record IsNext (event : Event) (state : Pipeline) (table : Table) (k : ℕ) : Type 0 where
  pub there : event_at table (k + 1) ≡ Some event
  pub on : flag_at table (k + 1) ≡ Some true
  pub before : state ≡ state_at table k

-- ---- a tile t and its stack u become t' and u'

-- the tile may be made, and made deep, and all else is the same
pub record IsSame (t : TileImage) (u : Undo) (t' : TileImage) (u' : Undo) : Type 0 where
  pub made : t.made ≡ true → t'.made ≡ true
  pub deep : t.deep ≡ true → t'.deep ≡ true
  pub tile : t' ≡ record t { made = t'.made; deep = t'.deep }
  pub frames : u'.frames ≡ u.frames
  pub opening : u'.opens_fresh ≡ u.opens_fresh

-- an event is drawn in a state on a tile that may be made, and made deep, for it, and what it overwrites is a frame more, whose depths have a place; on a tile
-- that isn't made it is nothing or all
pub record IsPast (event : Event) (state : Pipeline) (t : TileImage) (u : Undo) (t' : TileImage) (u' : Undo) : Type 0 where
  pub made : t.made ≡ true → t'.made ≡ true
  pub deep : t.deep ≡ true → t'.deep ≡ true
  pub painted : Paints (pixel_after event state) (kept_by event state) (record t { made = t'.made; deep = t'.deep })
      (without_room u.opens_fresh (u.frames ++ [] ∷ [])) t' u'
  pub depths : FitDepths t'.deep (top u'.frames)
  pub alike : t'.made ≡ false → IsAlike t.place (top u'.frames)

-- the event after position k is drawn so
pub record ClearsPast (table : Table) (k : ℕ) (t : TileImage) (u : Undo) (t' : TileImage) (u' : Undo) : Type 0 where
  pub event : Event
  pub next : IsNext event (state_at table k) table k
  pub past : IsPast event (state_at table k) t u t' u'

-- what a step over an event comes to: it is drawn, or refused for want of memory, and then nothing changed; what writes nothing isn't refused
pub record StepsOver (event : Event) (state : Pipeline) (t : TileImage) (u : Undo) {A E : Type 0} (result : Result A E) (t' : TileImage) (u' : Undo)
    : Type 0 where
  pub drawn : OnOk result (IsPast event state t u t' u')
  pub same : OnErr result (IsSame t u t' u')
  pub free : event_spans event state t.place ≡ 0 → event_pixels event state t.place ≡ 0 → length u.frames + 1 < 2 ^ 64 → IsOk result
  pub wanted : OnErr result (length u.frames < 4294967295 → Wanted)
