use Rattle.std.proofs.Common.{◌≡◌, ◌≤◌, ◌+◌, ℕ, Some, slice_get, length}
use Rattle.fd_events.specs.StateList.{state_place}
use Rattle.fd_events.proofs.state_list.places_of.Given as goal

-- the places so far
abbrev pub invariant-loop-event : goal.invariant-loop-event
invariant-loop-event l = record {
  number : length l.places.items ≡ l.event-index + 1;
  place : l.place ≡ state_place l.events l.event-index;
  small : l.place ≤ l.event-index;
  each : (k : ℕ) → k ≤ l.event-index → slice_get l.places.items k ≡ Some (state_place l.events k);
}
