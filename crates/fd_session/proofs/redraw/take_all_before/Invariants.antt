use Rattle.std.proofs.Common.{◌≡◌, ◌+◌, ◌≤◌, take, drop, All}
use Rattle.std.specs.List.{AllZip}
use Rattle.fd_owner.specs.History.{position}
use Rattle.fd_session.specs.Redraw.{IsTakenBefore}
use Rattle.fd_session.proofs.redraw.take_all_before.Given as goal

abbrev pub invariant-loop-owner : goal.invariant-loop-owner
invariant-loop-owner l = record {
  taken : AllZip (IsTakenBefore l.table l.switch) (take l.owner-index l.initial.owners) (take l.owner-index l.owners);
  rest : drop l.owner-index l.owners ≡ drop l.owner-index l.initial.owners;
  all : All (λ owner. l.lowest ≤ position owner.history) (take l.owner-index l.owners);
  low : l.switch.number ≤ l.lowest + 1;
  high : l.lowest ≤ l.switch.position;
}
