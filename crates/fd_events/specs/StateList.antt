-- Working. The states of a table, one for each state event and one before them.
use Rattle.std.specs.Prelude.{◌≡◌, ℕ, zero, suc, ◌+◌, ◌≤◌, Bool, true, false, List, length, Option, Some, None, option_and_then, slice_get, if◌then◌else◌}
use Rattle.fd_events.specs.declared.event.Event.{Event}
use Rattle.fd_events.specs.declared.event.Event.TheVariants.{SetRaster, SetScissor, SetBlend, SetFactor, SetDepth}
use Rattle.fd_events.specs.declared.pipeline.Pipeline.{Pipeline}
use Rattle.fd_events.specs.declared.state_list.StateList.{StateList}
use Rattle.fd_events.specs.Table.{state_of}

-- whether an event replaces a part of the state
abbrev pub is_state_event : Event → Bool
is_state_event (SetRaster raster) = true
is_state_event (SetScissor rect) = true
is_state_event (SetBlend blend) = true
is_state_event (SetFactor factor) = true
is_state_event (SetDepth depth) = true
is_state_event other = false

-- a state event begins a state of its own, and any other leaves the one before it
abbrev pub place_past : Event → ℕ → ℕ
place_past event place = if is_state_event event then place + 1 else place

abbrev pub place_past_event : Option Event → ℕ → ℕ
place_past_event None place = place
place_past_event (Some event) place = place_past event place

-- the place of the state after the first events: how many of them are state events
abbrev pub state_place : List Event → ℕ → ℕ
state_place events zero = 0
state_place events (suc k) = place_past_event (slice_get events k) (state_place events k)

-- a place is kept for each position
pub record ArePlaces (events : List Event) (places : List ℕ) : Type 0 where
  pub number : length places ≡ length events + 1
  pub each : (k : ℕ) → k ≤ length events → slice_get places k ≡ Some (state_place events k)

-- a state is kept for each state event and one before them all, and those of the positions up to this one are right
pub record HasStatesTo (events : List Event) (position : ℕ) (list : StateList) : Type 0 where
  pub flags : length list.flags.items ≡ length events
  pub places : ArePlaces events list.places.items
  pub number : length list.states.items ≡ state_place events (length events) + 1
  pub each : (k : ℕ) → k ≤ position → slice_get list.states.items (state_place events k) ≡ Some (state_of events list.flags.items k)

-- so are all
abbrev pub HasStates : List Event → StateList → Type 0
HasStates events list = HasStatesTo events (length events) list

-- the state that stands at the place of a position
abbrev pub listed_state : StateList → ℕ → Option Pipeline
listed_state list position = option_and_then (slice_get list.states.items) (slice_get list.places.items position)
