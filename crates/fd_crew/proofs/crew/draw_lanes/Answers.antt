use Rattle.fd_crew.proofs.Working.{worked_one, worked_next, same_at, fits_at, rest_after}
use Rattle.fd_crew.proofs.Passing.{passed_next}
use Rattle.std.proofs.Common.{refl, ◌∙◌}
use Rattle.fd_crew.proofs.Wants.{lowered_then}
use Rattle.fd_crew.proofs.crew.draw_lanes.Goals as goal

pub draw_lane-requires-clause-fits : goal.draw_lane-requires-clause-fits
draw_lane-requires-clause-fits g c _ _ =
    fits_at g.L.Lane.shown g.L.Lane.fits c.args.course.now.table.now c.args.course.now.fence.now.table.shared.key.target _ _ _ c.loop-index-test.true
    (same_at g.L.Lane.shown g.L.Lane.fits c.args.course.now.table.now 0 _ _ _ _ c.loop-index-test.true c.loop-index.auto.lanes (cc) c.loop-index.invariant.rest)
    c.requires.fits

pub loop-index-preserved : goal.loop-index-preserved
loop-index-preserved g c =
    record {
      found = c.draw_lane.ensures.found ∙ c.loop-index.invariant.found;
      seat = c.draw_lane.ensures.seat;
      worked = worked_next _ _ _ _ _ _ _ _ _ _ _ _ c.loop-index-test.true c.loop-index.auto.lanes (cc) c.loop-index.invariant.rest
          c.loop-index.invariant.worked (worked_one _ _ _ _ _ _ _ _ c.draw_lane.ensures.lane c.draw_lane.ensures.fits
          c.draw_lane.ensures.low c.draw_lane.ensures.lower c.draw_lane.ensures.share);
      wanted = lowered_then g.L.Lane.wanted _ _ _ c.loop-index.invariant.wanted c.draw_lane.ensures.wanted;
      passed = passed_next g.L.Lane.shown _ _ _ _ _ _ _ _ (refl) c.loop-index-test.true c.loop-index.auto.lanes
          (same_at g.L.Lane.shown g.L.Lane.fits c.args.course.now.table.now 0 _ _ _ _ c.loop-index-test.true c.loop-index.auto.lanes (cc)
          c.loop-index.invariant.rest) c.loop-index.invariant.passed c.draw_lane.ensures.passed;
      rest = rest_after c.args.lanes.now c.loop-index.lanes c.loop-index.index c.draw_lane.new.lane c.loop-index.invariant.rest;
    }
