use Rattle.std.proofs.Common.{◌≤◌, ◌-◌}
use Rattle.fd_owner.specs.Untouched.{AreUntouched}
use Rattle.fd_owner.proofs.next.pass_idle.Given as goal

abbrev pub invariant-loop-position : goal.invariant-loop-position
invariant-loop-position l = record { from : l.from ≤ l.position; last : l.position ≤ l.to; idle : AreUntouched l.table l.from l.position l.place }

abbrev pub decreases-loop-position : goal.decreases-loop-position
decreases-loop-position l = l.to - l.position
