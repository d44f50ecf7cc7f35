use Rattle.std.proofs.Common.{ℕ, ap, subst}
use Rattle.fd_crew.specs.declared.fence.View.{View}
use Rattle.fd_crew.specs.Lanes.{Worked}
use Rattle.fd_crew.proofs.Ending.{above_all, fits_worked, fits_all, ends_reached, ends_stopped}
use Rattle.fd_crew.proofs.Passing.{passed_none, passed_from, passed_back}
use Rattle.fd_crew.proofs.Wants.{not_reached}
use Rattle.fd_crew.proofs.crew.run_shared.Goals as goal

pub run_back-requires-after_bounds : goal.run_back-requires-after_bounds
run_back-requires-after_bounds g c κs within = above_all _ _ _ _ _ _ _ _ _ c.run_range.ensures.worked c.close-at.ensures.seen

pub returns-then-at-advance-clause-ended : goal.returns-then-at-advance-clause-ended
returns-then-at-advance-clause-ended g c =
    let W : ℕ → Type 0 = λ n. Worked g.L.Lane.shown g.L.Lane.fits c.args.advance.now.table.now n c.in_ok-fence.seat.me.0 c.run_range.new.seat.me.0
    c.args.lanes.now c.run_range.new.lanes in
    ends_reached _ g.L.Lane.fits _ _ _ c.in_ok-fence.seat.me.0 c.run_range.new.seat.me.0 _ _
    (ap (λ (v : View). v.low) c.in_ok-fence.ensures.view) c.close-at.ensures.low c.close-at.ensures.seen
    (subst W c.in_ok-fence.ensures.workers.1 c.run_range.ensures.worked) c.if-at-advance.true

pub returns-then-at-advance-clause-fits : goal.returns-then-at-advance-clause-fits
returns-then-at-advance-clause-fits g c = fits_worked _ _ _ _ _ _ _ _ c.run_range.ensures.worked

pub returns-clause-ended : goal.returns-clause-ended
returns-clause-ended g c =
    let W : ℕ → Type 0 = λ n. Worked g.L.Lane.shown g.L.Lane.fits c.args.advance.now.table.now n c.in_ok-fence.seat.me.0 c.run_range.new.seat.me.0
    c.args.lanes.now c.run_range.new.lanes in
    ends_stopped _ g.L.Lane.fits _ _ _ c.in_ok-fence.seat.me.0 c.run_range.new.seat.me.0 _ _
    (ap (λ (v : View). v.low) c.in_ok-fence.ensures.view) c.close-at.ensures.low c.close-at.ensures.seen
    (subst W c.in_ok-fence.ensures.workers.1 c.run_range.ensures.worked) _ c.run_back.ensures.moved c.if-at-advance.false

pub returns-clause-fits : goal.returns-clause-fits
returns-clause-fits g c = fits_all _ _ _ _ _ _ _ _ _ c.run_range.ensures.worked c.run_back.ensures.fits

pub returns-then-at-advance-clause-passed : goal.returns-then-at-advance-clause-passed
returns-then-at-advance-clause-passed g c =
    passed_from g.L.Lane.shown (g.G.Gate.opened c.args.gate.now) 0 c.whole-team.result.first_lane c.args.lanes.now c.run_range.new.lanes
    c.whole-team.ensures.first c.run_range.ensures.passed

pub returns-clause-passed : goal.returns-clause-passed
returns-clause-passed g c =
    passed_back g.L.Lane.shown (g.G.Gate.opened c.args.gate.now) 0 c.close-at.result c.args.lanes.now c.run_range.new.lanes c.run_back.new.lanes
    (above_all _ _ _ _ _ _ _ _ _ c.run_range.ensures.worked c.close-at.ensures.seen)
    (passed_from g.L.Lane.shown (g.G.Gate.opened c.args.gate.now) 0 c.whole-team.result.first_lane c.args.lanes.now c.run_range.new.lanes
    c.whole-team.ensures.first c.run_range.ensures.passed) c.run_back.ensures.moved

pub returns-in_err-fence-clause-passed : goal.returns-in_err-fence-clause-passed
returns-in_err-fence-clause-passed g c = passed_none g.L.Lane.shown (g.G.Gate.opened c.args.gate.now) 0 c.args.lanes.now

pub returns-clause-wanted : goal.returns-clause-wanted
returns-clause-wanted g c =
    not_reached g.L.Lane.wanted _ c.run_range.new.seat.me.0.low c.in_ok-fence.seat.me.0.low _ c.close-at.ensures.low
    (ap (λ (v : View). v.low) c.in_ok-fence.ensures.view) c.if-at-advance.false c.run_range.ensures.wanted
