-- Working. What an event does, of whatever kind it is.
use Rattle.std.specs.Prelude.{◌≡◌, Bool, true, false}
use Rattle.fd_events.specs.declared.effect.Clear.{Clear}
use Rattle.fd_events.specs.declared.effect.Clear.TheVariants.{Colours, Depths}
use Rattle.fd_events.specs.declared.effect.Effect.{Effect}
use Rattle.fd_events.specs.declared.effect.Effect.TheVariants as effect
use Rattle.fd_events.specs.declared.event.Event.{Event}
use Rattle.fd_events.specs.declared.event.Event.TheVariants as event
use Rattle.fd_events.specs.StateList.{is_state_event}

-- whether an event writes pixels: a clear or a draw
abbrev pub writes_pixels : Event → Bool
writes_pixels (event.Clear colour) = true
writes_pixels (event.DepthClear depth) = true
writes_pixels (event.Draw draw) = true
writes_pixels other = false

-- the event that a clear is
abbrev pub event_of_clear : Clear → Event
event_of_clear (Colours colour) = event.Clear colour
event_of_clear (Depths depth) = event.DepthClear depth

-- this is what an event does
abbrev pub HasEffect : Event → Effect → Type 0
HasEffect e effect.State = (is_state_event e ≡ true) × (writes_pixels e ≡ false)
HasEffect e (effect.Clear clear) = e ≡ event_of_clear clear
HasEffect e (effect.Draw draw) = e ≡ event.Draw draw.now
HasEffect e effect.Nothing = (is_state_event e ≡ false) × (writes_pixels e ≡ false)
