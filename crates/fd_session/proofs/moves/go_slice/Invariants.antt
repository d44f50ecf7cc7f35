use Rattle.std.proofs.Common.{◌<◌, ◌≤◌, ◌-◌}
use Rattle.fd_owner.specs.Shown.{Shown}
use Rattle.fd_crew.specs.Lanes.{ArePassed}
use Rattle.fd_memory.specs.Wanting.{Wanted}
use Rattle.fd_session.specs.Held.{StandsFrom, IsLeft}
use Rattle.fd_session.specs.Moves.{forgets_by}
use Rattle.fd_session.proofs.moves.go_slice.Given as goal

abbrev pub invariant-loop-at : goal.invariant-loop-at
invariant-loop-at g l = record {
  left : IsLeft (StandsFrom (forgets_by l.drive.policy) l.way.together l.way.table.now l.at) l.fn.owners l.owners;
  passed : ArePassed (λ (o : Shown). o) (g.G.Gate.opened l.drive.gate.now) 0 l.fn.owners l.owners;
  wanted : l.at < l.slice.end → Wanted;
  ahead : l.slice.from ≤ l.at;
  high : l.at ≤ l.slice.end;
  alone : l.alone_to ≤ l.slice.end;
}

abbrev pub decreases-loop-at : goal.decreases-loop-at
decreases-loop-at g l = l.alone_to - l.at
