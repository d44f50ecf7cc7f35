use Rattle.std.proofs.Common.{◌≤◌, ◌-◌}
use Rattle.fd_owner.specs.History.{position}
use Rattle.fd_owner.proofs.owner.Owner.own_clears.Given as goal

abbrev pub invariant-loop-near : goal.invariant-loop-near
invariant-loop-near l = record { least : position l.self.history ≤ l.clears.to; order : l.clears.to ≤ l.near; most : l.near ≤ l.to }

abbrev pub decreases-loop-near : goal.decreases-loop-near
decreases-loop-near l = l.to - l.near
