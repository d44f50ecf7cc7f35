use Rattle.std.proofs.Common.{◌≡◌, ◌≤◌, ◌-◌}
use Rattle.fd_owner.specs.History.{position}
use Rattle.fd_owner.specs.Shown.{gone_on_to}
use Rattle.fd_owner.proofs.owner.Owner.clear_own.Given as goal

abbrev pub invariant-loop-clears : goal.invariant-loop-clears
invariant-loop-clears l = record {
  moved : l.self ≡ gone_on_to l.table (position l.self.history) l.fn.self;
  least : position l.fn.self.history ≤ position l.self.history;
  most : position l.self.history ≤ l.clears.to;
}

abbrev pub decreases-loop-clears : goal.decreases-loop-clears
decreases-loop-clears l = l.clears.to - position l.self.history
