use Rattle.std.proofs.Common.{get_or, arith}
use Rattle.fd_owner.specs.Shown.{Shown}
use Rattle.fd_crew.proofs.Working.{rest_after}
use Rattle.fd_crew.proofs.Ending.{alike_at, zip_next, zip_whole}
use Rattle.fd_session.specs.Near.{StandsNear, IsTakenBack}
use Rattle.fd_session.proofs.Frames.{all_moved}
use Rattle.fd_session.proofs.near.take_all_back.Goals as goal

pub loop-owner-preserved : goal.loop-owner-preserved
loop-owner-preserved c =
    let owners = c.loop-owner.owners in
    let o : Shown = get_or owners c.loop-owner.owner-index c.owner-item.result in
    let is = alike_at c.args.owners.now owners _ o c.loop-owner-test.true c.loop-owner.auto.owners (cc) c.loop-owner.invariant.rest in
    record {
      taken = zip_next (IsTakenBack c.args.to) _ _ _ _ _ c.loop-owner-test.true c.loop-owner.auto.owners is c.loop-owner.invariant.taken c.retreat.ensures;
      rest = rest_after c.args.owners.now owners c.loop-owner.owner-index c.retreat.new.owner c.loop-owner.invariant.rest;
    }

pub returns : goal.returns
returns c = record {
  near = λ table k le near.
      all_moved (StandsNear table k) (StandsNear table c.args.to) (IsTakenBack c.args.to) (λ o p n t. (t.place, t.near table k le n)) _ _ near
      (zip_whole (IsTakenBack c.args.to) _ _ _ (omega arith) c.loop-owner.auto.owners c.loop-owner.invariant.taken);
}
