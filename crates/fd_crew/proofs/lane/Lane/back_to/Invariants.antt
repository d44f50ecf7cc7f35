use Rattle.std.proofs.Common.{◌≡◌, ◌≤◌}
use Rattle.fd_events.specs.Table.{Table}
use Rattle.fd_owner.specs.History.{position}
use Rattle.fd_owner.specs.Shown.{gone_back_to}
use Rattle.fd_crew.proofs.lane.Lane.back_to.Given as goal

abbrev pub invariant-loop-self : goal.invariant-loop-self
invariant-loop-self g l =
    let old = g.Self.Lane.shown l.initial.self in
    let now = g.Self.Lane.shown l.self in record {
      moved : now ≡ gone_back_to (position now.history) old;
      above : l.to ≤ position now.history;
      below : position now.history ≤ position old.history;
      fits : (table : Table) → g.Self.Lane.fits l.initial.self table → g.Self.Lane.fits l.self table;
    }

abbrev pub decreases-loop-self : goal.decreases-loop-self
decreases-loop-self g l = position (g.Self.Lane.shown l.self).history
