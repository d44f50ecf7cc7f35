use Rattle.std.proofs.Common.{◌≡◌}
use Rattle.fd_events.proofs.table.list_triangles.Given as goal

abbrev pub invariant-loop-event : goal.invariant-loop-event
invariant-loop-event l = l.events ≡ l.initial.events
