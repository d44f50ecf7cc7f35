use Rattle.std.proofs.Common.{◌≡◌, ◌+◌, ◌-◌, Some, None, true, false, refl, ◌∙◌, arith}
use Rattle.fd_events.specs.Reach.{HoldsWritten}
use Rattle.fd_events.specs.Table.{flag_at}
use Rattle.fd_session.proofs.Spared.{changed_here, followed_by, followed, outside, active_is}
use Rattle.fd_session.proofs.switch.changed_reach.Goals as goal

pub loop-at-init : goal.loop-at-init
loop-at-init c = record {
  from = omega arith;
  to = c.requires.last;
  followed = λ was is. record { follows = is; changed = changed_here c.args.table.now c.args.number was c.reach-reach.result c.reach-reach.ensures.written };
}

pub loop-at-preserved-then-is_on : goal.loop-at-preserved-then-is_on
loop-at-preserved-then-is_on c =
    let table = c.args.table.now in
    let loop = c.loop-at in
    let event = c.event-event.result.now in
    let on : flag_at table (loop.at + 1) ≡ Some true = cc in
    let written : HoldsWritten c.reach.result table.width table.height event = rw c.event-event.ensures at c.reach.ensures.written in
    record {
      from = omega (arith, loop.invariant.from);
      to = omega (arith, c.loop-at-test.true);
      followed = λ was is.
          rw c.after-state.ensures
          (followed_by table c.args.number was (Some event) loop.at loop.state loop.reach c.join-reach.result loop.invariant.from
          (active_is table (loop.at + 1) true on ∙ c.event-event.ensures)
          (λ x y out. (outside c.join-reach.result loop.reach c.reach_by_state.result x y c.join-reach.ensures.both out).0)
          (λ s t x y before right bottom out. c.reach_by_state.ensures table.width table.height written s t x y before right bottom
          (outside c.join-reach.result loop.reach c.reach_by_state.result x y c.join-reach.ensures.both out).1) (loop.invariant.followed was is));
    }

pub loop-at-preserved : goal.loop-at-preserved
loop-at-preserved c =
    let table = c.args.table.now in
    let loop = c.loop-at in
    let off : flag_at table (loop.at + 1) ≡ Some false = cc in
    record {
      from = omega (arith, loop.invariant.from);
      to = omega (arith, c.loop-at-test.true);
      followed = λ was is. followed_by table c.args.number was None loop.at loop.state loop.reach loop.reach loop.invariant.from
          (active_is table (loop.at + 1) false off) (λ x y out. out) (λ s t x y before right bottom out. (refl, refl)) (loop.invariant.followed was is);
    }

pub returns-else-not-is_same : goal.returns-else-not-is_same
returns-else-not-is_same c = λ was is.
    let table = c.args.table.now in
    let loop = c.loop-at in
    let back : loop.at + 1 - 1 ≡ loop.at = omega arith in
    followed table _ was loop.at c.args.to loop.state _ loop.invariant.from (cc (c.is_same.ensures c.if-not-is_same.false, c.state_before.ensures, back))
    (loop.invariant.followed was is)
