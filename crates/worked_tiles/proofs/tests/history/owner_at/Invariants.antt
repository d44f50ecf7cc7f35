use Rattle.std.proofs.Common.{◌≡◌}
use Rattle.fd_owner.specs.History.{drawn_history}
use Rattle.fd_owner.specs.Shown.{IsInside}
use Rattle.worked_tiles.proofs.tests.history.owner_at.Given as goal

abbrev pub invariant-loop-passed : goal.invariant-loop-passed
invariant-loop-passed l =
    record {
      history : l.owner.history ≡ drawn_history l.table l.owner.place l.passed;
      inside : IsInside l.owner.place l.table;
    }
