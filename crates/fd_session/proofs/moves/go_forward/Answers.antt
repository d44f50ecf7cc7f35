use Rattle.std.proofs.Common.{get_or}
use Rattle.fd_session.proofs.Frames.{level_left, no_lower, left_down}
use Rattle.fd_owner.specs.Shown.{Shown}
use Rattle.fd_crew.proofs.Passing.{passed_back}
use Rattle.fd_session.specs.Moves.{forgets_by}
use Rattle.fd_session.proofs.moves.go_forward.Goals as goal

pub returns-then-way-clause-comes : goal.returns-then-way-clause-comes
returns-then-way-clause-comes g c =
    let gone = c.go_on-run.ensures.comes in
    record { ahead = gone.ahead; within = gone.within; left = level_left _ _ c.if-way.true _ _ _ _ gone.left }

pub run_back-requires-after_bounds : goal.run_back-requires-after_bounds
run_back-requires-after_bounds g c κs k d below =
    no_lower (forgets_by c.args.drive.now.policy) c.args.way.now.together c.args.way.now.table.now c.unwrap_or.result (get_or c.go_on-run.new.owners k d)
    (rw c.unwrap_or.ensures (c.go_on-run.ensures.comes.left.each k d below))

pub returns-clause-comes : goal.returns-clause-comes
returns-clause-comes g c =
    let gone = c.go_on-run.ensures.comes in
    rw (← c.unwrap_or.ensures) (record {
      ahead = rw c.unwrap_or.ensures gone.ahead;
      within = rw c.unwrap_or.ensures gone.within;
      left = left_down _ _ c.requires.forgotten _ c.unwrap_or.result _ _ _ (rw c.unwrap_or.ensures gone.left) c.run_back.ensures.moved;
    })

pub returns-clause-passed : goal.returns-clause-passed
returns-clause-passed g c =
    let gone = c.go_on-run.ensures.comes in
    passed_back (λ (o : Shown). o) (g.G.Gate.opened c.args.drive.now.gate.now) 0 c.unwrap_or.result c.args.owners.now c.go_on-run.new.owners
    c.run_back.new.lanes (λ k d below. no_lower (forgets_by c.args.drive.now.policy) c.args.way.now.together c.args.way.now.table.now c.unwrap_or.result
    (get_or c.go_on-run.new.owners k d) (rw c.unwrap_or.ensures (gone.left.each k d below))) c.go_on-run.ensures.passed c.run_back.ensures.moved
