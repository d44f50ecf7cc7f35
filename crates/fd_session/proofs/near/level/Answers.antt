use Rattle.std.proofs.Common.{false, get_or, arith}
use Rattle.fd_owner.specs.Shown.{Shown}
use Rattle.fd_crew.proofs.Working.{rest_after}
use Rattle.fd_crew.proofs.Ending.{alike_at, zip_next, zip_whole}
use Rattle.fd_session.specs.Held.{Stands}
use Rattle.fd_session.specs.Near.{IsBrought}
use Rattle.fd_session.proofs.Frames.{all_moved}
use Rattle.fd_session.proofs.near.level.Goals as goal

pub bring-requires-clause-near : goal.bring-requires-clause-near
bring-requires-clause-near c =
    let owners = c.loop-owner.owners in
    let o : Shown = get_or owners c.loop-owner.owner-index c.owner-item.result in
    let is = alike_at c.args.owners.now owners _ o c.loop-owner-test.true c.loop-owner.auto.owners (cc) c.loop-owner.invariant.rest in
    rw is (c.requires.near c.loop-owner.owner-index o c.loop-owner-test.true)

pub loop-owner-preserved : goal.loop-owner-preserved
loop-owner-preserved c =
    let owners = c.loop-owner.owners in
    let o : Shown = get_or owners c.loop-owner.owner-index c.owner-item.result in
    let is = alike_at c.args.owners.now owners _ o c.loop-owner-test.true c.loop-owner.auto.owners (cc) c.loop-owner.invariant.rest in
    record {
      taken = zip_next (IsBrought c.args.table.now c.args.to) _ _ _ _ _ c.loop-owner-test.true c.loop-owner.auto.owners is
          c.loop-owner.invariant.taken c.bring.ensures;
      rest = rest_after c.args.owners.now owners c.loop-owner.owner-index c.bring.new.owner c.loop-owner.invariant.rest;
    }

pub returns : goal.returns
returns c = record {
  left = all_moved (λ o. Unit {0}) (Stands false c.args.table.now c.args.to) (IsBrought c.args.table.now c.args.to) (λ o p u t. (t.place, t.stands)) _ _
      (λ k d within. tt)
      (zip_whole (IsBrought c.args.table.now c.args.to) _ _ _ (omega arith) c.loop-owner.auto.owners c.loop-owner.invariant.taken);
}
