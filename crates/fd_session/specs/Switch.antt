-- Working. What a switch of an event that was gone through changes.
use Rattle.std.specs.Prelude.{◌≡◌, ℕ, ◌<◌, ◌≤◌, false}
use Rattle.fd_cover.specs.declared.bounds.Bounds.{Bounds}
use Rattle.fd_cover.specs.Bounds.{is_within}
use Rattle.fd_tile.specs.declared.place.Place.{Place}
use Rattle.fd_tile.specs.Tile.{Pixel}
use Rattle.fd_events.specs.declared.event.Event.{Event}
use Rattle.fd_events.specs.declared.pipeline.Pipeline.{Pipeline}
use Rattle.fd_events.specs.Table.{Table, with_flag}
use Rattle.fd_events.specs.Image.{pixel_after, kept_by}
use Rattle.fd_owner.specs.History.{pixel_past, kept_past, drawn_history}
use Rattle.fd_session.specs.declared.switch.Switch.{Switch}

-- Outside the box the event does the same to every pixel of a target of this size in any two states.
abbrev pub HoldsByState : Bounds → ℕ → ℕ → Event → Type 0
HoldsByState box width height event = (s t : Pipeline) (x y : ℕ) (before : Pixel) → x < width → y < height → is_within box x y ≡ false
    → (pixel_after event s x y before ≡ pixel_after event t x y before) × (kept_by event s x y before ≡ kept_by event t x y before)

-- The event after position k does the same to a pixel by either table.
abbrev pub IsSameAt : Table → Table → ℕ → ℕ → ℕ → Pixel → Type 0
IsSameAt old new k x y before = (pixel_past old k x y before ≡ pixel_past new k x y before) × (kept_past old k x y before ≡ kept_past new k x y before)

-- Outside the box each event up to a position does the same to every pixel of the target by either table.
abbrev pub HoldsChanged : Bounds → Table → Table → ℕ → Type 0
HoldsChanged box old new to = (k x y : ℕ) (before : Pixel) → k < to → x < new.width → y < new.height → is_within box x y ≡ false
    → IsSameAt old new k x y before

-- the table as it was before the switch
abbrev pub unswitched : Table → Switch → Table
unswitched table switch = with_flag table switch.number switch.was_on

-- The box of the switch holds all that it changes up to the position of the owners.
abbrev pub HoldsSwitched : Table → Switch → Type 0
HoldsSwitched table switch = HoldsChanged switch.reach (unswitched table switch) table switch.position

-- A place has the same history as before the switch, up to the position of the owners.
abbrev pub IsSpared : Table → Switch → Place → Type 0
IsSpared table switch place = (k : ℕ) → k ≤ switch.position → drawn_history (unswitched table switch) place k ≡ drawn_history table place k
