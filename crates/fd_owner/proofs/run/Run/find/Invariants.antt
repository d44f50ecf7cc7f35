use Rattle.std.proofs.Common.{◌≤◌, ◌-◌}
use Rattle.fd_owner.specs.Clears.{Grows}
use Rattle.fd_owner.proofs.run.Run.find.Given as goal

abbrev pub invariant-loop-growing : goal.invariant-loop-growing
invariant-loop-growing l = record { grows : Grows l.table l.from l.before l.growing; most : l.growing.to ≤ l.to }

abbrev pub decreases-loop-growing : goal.decreases-loop-growing
decreases-loop-growing l = l.to - l.growing.to
