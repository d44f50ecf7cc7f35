use Rattle.std.proofs.Common.{◌≡◌}
use Rattle.fd_events.specs.StateList.{HasStatesTo}
use Rattle.fd_events.proofs.state_list.StateList.recompute.Given as goal

-- the states so far
abbrev pub invariant-loop-index : goal.invariant-loop-index
invariant-loop-index l = record {
  flags : l.self.flags.items ≡ l.initial.self.flags.items;
  states : HasStatesTo l.events l.index l.self;
}
