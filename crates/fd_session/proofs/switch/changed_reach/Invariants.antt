use Rattle.std.proofs.Common.{◌≡◌, ◌≤◌, ◌-◌, Bool}
use Rattle.fd_events.specs.Table.{with_flag, state_at}
use Rattle.fd_session.proofs.Spared.{IsFollowed}
use Rattle.fd_session.proofs.switch.changed_reach.Given as goal

abbrev pub invariant-loop-at : goal.invariant-loop-at
invariant-loop-at l = record {
  from : l.number ≤ l.at;
  to : l.at ≤ l.to;
  followed : (was : Bool) → l.fn.after ≡ state_at (with_flag l.table l.number was) l.number → IsFollowed l.table l.number was l.at l.state l.reach;
}

abbrev pub decreases-loop-at : goal.decreases-loop-at
decreases-loop-at l = l.to - l.at
