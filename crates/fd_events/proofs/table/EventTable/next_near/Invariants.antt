use Rattle.std.proofs.Common.{◌≤◌, ◌-◌}
use Rattle.fd_events.specs.Far.{AreFar}
use Rattle.fd_events.proofs.table.EventTable.next_near.Given as goal

abbrev pub invariant-loop-near : goal.invariant-loop-near
invariant-loop-near l = record { from : l.from ≤ l.near; last : l.near ≤ l.to; far : AreFar l.self l.from l.near l.window }

abbrev pub decreases-loop-near : goal.decreases-loop-near
decreases-loop-near l = l.to - l.near
