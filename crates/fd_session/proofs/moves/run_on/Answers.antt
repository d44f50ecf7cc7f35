use Rattle.fd_session.proofs.Frames.{run_reached, run_stopped}
use Rattle.fd_session.proofs.Gated.{passed_settled}
use Rattle.fd_session.specs.Moves.{forgets_by}
use Rattle.fd_session.proofs.moves.run_on.Goals as goal

pub returns-in-Reached-clause-comes : goal.returns-in-Reached-clause-comes
returns-in-Reached-clause-comes g c = run_reached _ _ c.requires.forgotten _ _ _ _ _ _ c.requires.stand
    (rw c.forgets.ensures at c.settle.ensures) c.requires.ahead
    (rw (c.advance-advance.ensures.table, c.advance-advance.ensures.target, c.in-Reached.is) at c.in_ok-outcome.ensures.ended)

pub returns-in-Stopped-clause-comes : goal.returns-in-Stopped-clause-comes
returns-in-Stopped-clause-comes g c = run_stopped _ _ c.requires.forgotten _ _ _ _ _ _ c.requires.stand
    (rw c.forgets.ensures at c.settle.ensures) c.in-Stopped.at
    (rw (c.advance-advance.ensures.table, c.advance-advance.ensures.target, c.in-Stopped.is) at c.in_ok-outcome.ensures.ended)

pub returns-in-Reached-clause-passed : goal.returns-in-Reached-clause-passed
returns-in-Reached-clause-passed g c = passed_settled (forgets_by c.args.drive.now.policy) (g.G.Gate.opened c.args.drive.now.gate.now) 0 _ _ _
    (rw c.forgets.ensures at c.settle.ensures) c.run_shared.ensures.passed

pub returns-in-Stopped-clause-passed : goal.returns-in-Stopped-clause-passed
returns-in-Stopped-clause-passed g c = passed_settled (forgets_by c.args.drive.now.policy) (g.G.Gate.opened c.args.drive.now.gate.now) 0 _ _ _
    (rw c.forgets.ensures at c.settle.ensures) c.run_shared.ensures.passed
