use Rattle.std.proofs.Common.{◌≤◌, ◌-◌}
use Rattle.fd_events.specs.Far.{ArePassedBy}
use Rattle.fd_events.proofs.table.EventTable.next_over.Given as goal

abbrev pub invariant-loop-over : goal.invariant-loop-over
invariant-loop-over l = record { from : l.from ≤ l.over; last : l.over ≤ l.to; passed : ArePassedBy l.self l.from l.over l.window }

abbrev pub decreases-loop-over : goal.decreases-loop-over
decreases-loop-over l = l.to - l.over
