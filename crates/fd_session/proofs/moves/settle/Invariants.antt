use Rattle.std.proofs.Common.{◌≡◌, ◌++◌, take, drop, map}
use Rattle.fd_session.specs.Held.{as_kept}
use Rattle.fd_session.proofs.moves.settle.Given as goal

abbrev pub invariant-loop-owner : goal.invariant-loop-owner
invariant-loop-owner l = l.owners ≡ map (as_kept l.forgets) (take l.owner-index l.initial.owners) ++ drop l.owner-index l.initial.owners
