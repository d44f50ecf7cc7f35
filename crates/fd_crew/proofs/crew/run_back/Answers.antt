use Rattle.std.proofs.Common.{arith}
use Rattle.std.proofs.Common.{ap, get_or}
use Rattle.fd_crew.proofs.Working.{rest_after}
use Rattle.fd_crew.proofs.Ending.{alike_at, zip_next}
use Rattle.fd_crew.proofs.crew.run_back.Goals as goal

pub back_to-requires : goal.back_to-requires
back_to-requires g c =
    let L : Type 0 = g.row.L.Denot in
    let x : L = get_or c.loop-lane.lanes c.loop-lane.lane-index c.lane-item.result in
    let is = alike_at _ _ _ _ c.loop-lane-test.true c.loop-lane.auto.lanes
    (ap (λ (d : L). get_or c.loop-lane.lanes c.loop-lane.lane-index d) c.lane-item.is) c.loop-lane.invariant.rest in
    rw is (omega arith)

pub loop-lane-preserved : goal.loop-lane-preserved
loop-lane-preserved g c =
    let L : Type 0 = g.row.L.Denot in
    let is = alike_at _ _ _ _ c.loop-lane-test.true c.loop-lane.auto.lanes (cc) c.loop-lane.invariant.rest in
    record {
      moved = zip_next _ _ _ _ _ _ c.loop-lane-test.true c.loop-lane.auto.lanes is c.loop-lane.invariant.moved c.back_to.ensures.moved;
      fits = zip_next _ _ _ _ _ _ c.loop-lane-test.true c.loop-lane.auto.lanes is c.loop-lane.invariant.fits c.back_to.ensures.fits;
      rest = rest_after c.args.lanes.now c.loop-lane.lanes c.loop-lane.lane-index c.back_to.new.self c.loop-lane.invariant.rest;
    }
