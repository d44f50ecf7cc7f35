-- Promised. What a table of events is, and its states.
use Rattle.std.specs.Prelude.{◌≡◌, ℕ, zero, suc, ◌≤◌, Bool, true, false, List, length, replicate, Option, Some, None, slice_get, slice_set}
use Rattle.std.specs.Prelude.{unwrap_or, is_some, Result, Ok, Err, IsOk, nat_le, ◌&&◌, ◌⊎◌, All, if◌then◌else◌}
use Rattle.fd_snap.specs.Limits.{most_pixels}
use Rattle.fd_events.specs.Limits.{most_events}
use Rattle.fd_events.specs.declared.event.Event.{Event}
use Rattle.fd_events.specs.declared.event.Event.TheVariants.{SetDepth, DepthClear, Draw}
use Rattle.fd_events.specs.declared.pipeline.Pipeline.{Pipeline}
use Rattle.fd_events.specs.declared.table.TableFault.{TableFault}
use Rattle.fd_events.specs.declared.table.TableFault.TheVariants.{Memory, Size, TooMany}
use Rattle.fd_events.specs.Pipeline.{defaults, state_after}

-- the version of the capture, the target's size, and the events and their flags from number 1 on
pub record Table : Type 0 where
  pub version : ℕ
  pub width : ℕ
  pub height : ℕ
  pub events : List Event
  pub flags : List Bool

abbrev pub table_of : ℕ → ℕ → ℕ → List Event → List Bool → Table
table_of version width height events flags = record { version = version; width = width; height = height; events = events; flags = flags }

-- ---- numbers

-- what a number names in a list
abbrev pub at_number : {X : Type 0} → List X → ℕ → Option X
at_number xs zero = None
at_number xs (suc n) = slice_get xs n

-- the event of a number
abbrev pub event_at : Table → ℕ → Option Event
event_at t number = at_number t.events number

-- whether the event of a number is switched on
abbrev pub flag_at : Table → ℕ → Option Bool
flag_at t number = at_number t.flags number

-- a number that names no event counts as switched off
abbrev pub is_set : List Bool → ℕ → Bool
is_set flags number = unwrap_or (at_number flags number) false

-- the table with one flag set
abbrev pub with_flag : Table → ℕ → Bool → Table
with_flag t zero on = t
with_flag t (suc n) on = record t { flags = slice_set t.flags n on }

-- ---- states

-- what a number names, if it is switched on
abbrev pub active : List Event → List Bool → ℕ → Option Event
active events flags number = if is_set flags number then at_number events number else None

abbrev pub active_event : Table → ℕ → Option Event
active_event t number = active t.events t.flags number

abbrev pub state_after_event : Option Event → Pipeline → Pipeline
state_after_event None s = s
state_after_event (Some event) s = state_after event s

-- the state after the first events: the defaults, changed by those that are switched on, in their order
abbrev pub state_of : List Event → List Bool → ℕ → Pipeline
state_of events flags zero = defaults
state_of events flags (suc k) = state_after_event (active events flags (suc k)) (state_of events flags k)

-- the state at a position, which is the state before the event of the next number
abbrev pub state_at : Table → ℕ → Pipeline
state_at t k = state_of t.events t.flags k

-- ---- a table's beginning

-- a width or a height that a target may have
abbrev pub is_side : ℕ → Bool
is_side n = nat_le 1 n && nat_le n most_pixels

-- the table of these events, all switched on
abbrev pub all_on : ℕ → ℕ → ℕ → List Event → Table
all_on version width height events = table_of version width height events (replicate (length events) true)

-- the table that is started with these events, or why there is none
abbrev pub started : ℕ → ℕ → ℕ → List Event → Result Table TableFault
started version width height events =
    if is_side width && is_side height then (if nat_le (length events) most_events then Ok (all_on version width height events) else Err TooMany) else Err Size

-- an event of version 3 alone
abbrev pub is_of_picture : Event → Bool
is_of_picture (Draw draw) = is_some draw.picture
is_of_picture other = false

-- an event of version 2 or 3 alone
abbrev pub is_of_depth : Event → Bool
is_of_depth (SetDepth depth) = true
is_of_depth (DepthClear depth) = true
is_of_depth (Draw draw) = is_some draw.picture
is_of_depth other = false

-- the version is 1, 2 or 3, and one has no event of a later one
pub record IsVersion (version : ℕ) (events : List Event) : Type 0 where
  pub number : (version ≡ 1) ⊎ ((version ≡ 2) ⊎ (version ≡ 3))
  pub first : version ≡ 1 → All (λ event. is_of_depth event ≡ false) events
  pub second : version ≤ 2 → All (λ event. is_of_picture event ≡ false) events

-- what holds of each table
pub record IsTable (t : Table) : Type 0 where
  pub version : IsVersion t.version t.events
  pub min_width : 1 ≤ t.width
  pub max_width : t.width ≤ most_pixels
  pub min_height : 1 ≤ t.height
  pub max_height : t.height ≤ most_pixels
  pub max_events : length t.events ≤ most_events
  pub flags : length t.flags ≡ length t.events

-- The result is this one, unless memory ran out where there would have been a table.
abbrev pub UnlessMemory : Result Table TableFault → Result Table TableFault → Type 0
UnlessMemory (Err Memory) whole = IsOk whole
UnlessMemory (Err Size) whole = whole ≡ Err Size
UnlessMemory (Err TooMany) whole = whole ≡ Err TooMany
UnlessMemory (Ok t) whole = whole ≡ Ok t
