use Rattle.std.proofs.Common.{◌≡◌, take, drop}
use Rattle.std.specs.List.{AllZip}
use Rattle.fd_session.specs.Near.{IsTakenBack}
use Rattle.fd_session.proofs.near.take_all_back.Given as goal

abbrev pub invariant-loop-owner : goal.invariant-loop-owner
invariant-loop-owner l = record {
  taken : AllZip (IsTakenBack l.to) (take l.owner-index l.initial.owners) (take l.owner-index l.owners);
  rest : drop l.owner-index l.owners ≡ drop l.owner-index l.initial.owners;
}
