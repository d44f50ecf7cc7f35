use Rattle.std.proofs.Common.{◌≤◌, ◌-◌}
use Rattle.fd_session.specs.Held.{IsLeft}
use Rattle.fd_session.specs.Near.{StandsNear}
use Rattle.fd_session.proofs.near.take_events_back.Given as goal

abbrev pub invariant-loop-at : goal.invariant-loop-at
invariant-loop-at l = record {
  left : IsLeft (StandsNear l.table l.at) l.fn.owners l.owners;
  low : l.to ≤ l.at;
  high : l.at ≤ l.fn.from;
}

abbrev pub decreases-loop-at : goal.decreases-loop-at
decreases-loop-at l = l.at - l.to
