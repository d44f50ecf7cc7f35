use Rattle.std.proofs.Common.{◌≤◌, ◌-◌}
use Rattle.fd_owner.specs.History.{position}
use Rattle.fd_owner.specs.Untouched.{AreUntouched}
use Rattle.fd_owner.proofs.owner.Owner.next_near.Given as goal

abbrev pub invariant-loop-near : goal.invariant-loop-near
invariant-loop-near l = record {
  least : position l.self.history ≤ l.near;
  order : l.near ≤ l.live;
  most : l.live ≤ l.to;
  far : AreUntouched l.table (position l.self.history) l.near l.self.place;
  idle : AreUntouched l.table l.near l.live l.self.place;
}

abbrev pub decreases-loop-near : goal.decreases-loop-near
decreases-loop-near l = l.to - l.near
