use Rattle.std.proofs.Common.{rules, arith}
use Rattle.fd_owner.specs.Shown.{Shown}
use Rattle.fd_crew.proofs.Passing.{passed_then}
use Rattle.fd_session.proofs.moves.go_slice.Goals as goal

pub returns-then-unwrap_or-at-clause-passed : goal.returns-then-unwrap_or-at-clause-passed
returns-then-unwrap_or-at-clause-passed g c =
    passed_then (λ (o : Shown). o) (g.G.Gate.opened c.args.drive.now.gate.now) 0 c.args.owners.now c.loop-at.owners c.run_on-run-in-loop-at.new.owners
    c.loop-at.invariant.passed c.run_on-run-in-loop-at.ensures.passed

pub loop-at-preserved : goal.loop-at-preserved
loop-at-preserved g c = record {
  left = search rules;
  passed = passed_then (λ (o : Shown). o) (g.G.Gate.opened c.args.drive.now.gate.now) 0 c.args.owners.now c.loop-at.owners
      c.run_on-run-in-loop-at.new.owners c.loop-at.invariant.passed c.run_on-run-in-loop-at.ensures.passed;
  wanted = λ less. c.loop-at.invariant.wanted (omega (arith, less));
  ahead = search rules;
  high = search rules;
  alone = search rules;
}
