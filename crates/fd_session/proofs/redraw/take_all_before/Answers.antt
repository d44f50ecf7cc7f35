use Rattle.std.proofs.Common.{◌-◌, false, get_or, arith}
use Rattle.std.proofs.lemmas.List.{take_all}
use Rattle.fd_owner.specs.Shown.{Shown}
use Rattle.fd_crew.proofs.Working.{rest_after}
use Rattle.fd_crew.proofs.Ending.{alike_at, zip_next, zip_whole}
use Rattle.fd_session.specs.Redraw.{IsTakenBefore}
use Rattle.fd_session.proofs.Frames.{no_lower, all_more, from_lowest}
use Rattle.fd_session.proofs.Switching.{all_taken}
use Rattle.fd_session.proofs.redraw.take_all_before.Goals as goal

pub take_before-requires-clause-stood : goal.take_before-requires-clause-stood
take_before-requires-clause-stood c =
    let owners = c.loop-owner.owners in
    let o : Shown = get_or owners c.loop-owner.owner-index c.owner-item.result in
    let is = alike_at c.args.owners.now owners _ o c.loop-owner-test.true c.loop-owner.auto.owners (cc) c.loop-owner.invariant.rest in
    rw is (c.requires.stood c.loop-owner.owner-index o c.loop-owner-test.true)

pub loop-owner-preserved : goal.loop-owner-preserved
loop-owner-preserved c =
    let owners = c.loop-owner.owners in
    let o : Shown = get_or owners c.loop-owner.owner-index c.owner-item.result in
    let is = alike_at c.args.owners.now owners _ o c.loop-owner-test.true c.loop-owner.auto.owners (cc) c.loop-owner.invariant.rest in
    let here = no_lower false false _ (c.args.switch.now.number - 1) _ c.take_before.ensures.stands in
    record {
      taken = zip_next (IsTakenBefore c.args.table.now c.args.switch.now) _ _ _ _ _ c.loop-owner-test.true c.loop-owner.auto.owners is
          c.loop-owner.invariant.taken c.take_before.ensures;
      rest = rest_after c.args.owners.now owners c.loop-owner.owner-index c.take_before.new.owner c.loop-owner.invariant.rest;
      all = all_more owners _ _ c.loop-owner.lowest _ (omega (arith, c.loop-owner-test.true, c.loop-owner.auto.owners)) (omega (arith, c.min-lowest.ensures))
          (omega (arith, c.min-lowest.ensures, c.position.ensures)) c.loop-owner.invariant.all;
      low = omega (arith, c.loop-owner.invariant.low, c.min-lowest.ensures, c.position.ensures, here);
      high = omega (arith, c.loop-owner.invariant.high, c.min-lowest.ensures);
    }

pub returns-clause-left : goal.returns-clause-left
returns-clause-left c =
    let owners = c.loop-owner.owners in
    let taken = all_taken c.args.table.now c.args.switch.now _ owners
    (zip_whole (IsTakenBefore c.args.table.now c.args.switch.now) _ _ _ (omega arith) c.loop-owner.auto.owners c.loop-owner.invariant.taken) in
    let all = rw (take_all c.loop-owner.owner-index owners (omega (arith, c.loop-owner-test.false, c.loop-owner.auto.owners))) at c.loop-owner.invariant.all in
    record { places = taken.places; each = from_lowest c.args.table.now (c.args.switch.now.number - 1) _ owners taken.each all }
