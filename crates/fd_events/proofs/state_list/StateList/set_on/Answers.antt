use Rattle.std.proofs.Common.{arith}
use Rattle.std.proofs.lemmas.List.{length-set}
use Rattle.fd_events.proofs.States.{state_of-set, state_of-set_quiet, place_read}
use Rattle.fd_events.proofs.state_list.StateList.set_on.Goals as goal

pub recompute-requires-clause-before : goal.recompute-requires-clause-before
recompute-requires-clause-before c = grind (arith, length-set, state_of-set)

pub returns-else-index-clause-states : goal.returns-else-index-clause-states
returns-else-index-clause-states c = grind (arith, place_read, length-set, state_of-set_quiet)
