use Rattle.fd_crew.proofs.Working.{worked_halves}
use Rattle.std.proofs.Common.{arith, ◌-◌}
use Rattle.fd_crew.proofs.Passing.{passed_from, passed_halves}
use Rattle.fd_crew.proofs.Wants.{lowered_both}
use Rattle.fd_crew.proofs.crew.+range.Goals as goal

pub run_range-returns-clause-worked : goal.run_range-returns-clause-worked
run_range-returns-clause-worked g t c =
    worked_halves _ _ _ _ _ _ _ _ _ _ _ _ _ c.split-other.ensures.front_view c.split-other.ensures.back_view c.join.ensures.view c.run_both.ensures.lower
    c.run_both.ensures.upper

pub run_range-returns-clause-passed : goal.run_range-returns-clause-passed
run_range-returns-clause-passed g t c =
    let k = c.halves-halves.result.1.first_lane - c.halves-halves.result.0.first_lane in
    passed_from g.L.Lane.shown (g.G.Gate.opened c.args.course.now.gate.now) c.args.team.now.first_lane c.halves-halves.result.0.first_lane
    c.args.lanes.now c.run_both.new.lanes c.halves-halves.ensures.lower.0 (passed_halves g.L.Lane.shown (g.G.Gate.opened c.args.course.now.gate.now)
    c.halves-halves.result.0.first_lane c.halves-halves.result.1.first_lane k c.args.lanes.now c.run_both.new.lanes (omega arith) (omega arith)
    c.run_both.ensures.lower_passed c.run_both.ensures.upper_passed)

pub run_range-returns-clause-wanted : goal.run_range-returns-clause-wanted
run_range-returns-clause-wanted g t c =
    lowered_both g.L.Lane.wanted _ _ _ _ _ _ c.split-other.ensures.front_view c.split-other.ensures.back_view c.join.ensures.view
    c.run_both.ensures.lower_wanted c.run_both.ensures.upper_wanted
