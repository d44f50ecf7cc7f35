use Rattle.std.proofs.Common.{◌≡◌, map, take}
use Rattle.fd_events.specs.Reach.{box_of, reach_of}
use Rattle.fd_events.proofs.table.reaches_of.Given as goal

abbrev pub invariant-loop-event : goal.invariant-loop-event
invariant-loop-event l = map box_of l.reaches.items ≡ map (reach_of l.width l.height) (take l.event-index l.events)
