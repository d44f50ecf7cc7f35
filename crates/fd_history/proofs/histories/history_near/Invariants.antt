use Rattle.std.proofs.Common.{◌≡◌, ◌≤◌, ◌-◌, ◌*◌, length}
use Rattle.fd_history.specs.Settled.{overwritten}
use Rattle.fd_history.proofs.Settles.{gathering_at}
use Rattle.fd_history.proofs.histories.history_near.Given as goal

abbrev pub invariant-loop-passed : goal.invariant-loop-passed
invariant-loop-passed l =
    record {
      last : l.passed ≤ l.to;
      gathered : l.gather ≡ gathering_at l.table l.passed l.x l.y;
      kept : l.pixels.items ≡ overwritten l.table l.passed l.x l.y;
      few : length l.gather.entries ≤ 65536 * l.passed;
    }

abbrev pub decreases-loop-passed : goal.decreases-loop-passed
decreases-loop-passed l = l.to - l.passed
