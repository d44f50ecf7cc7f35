use Rattle.std.proofs.Common.{arith}
use Rattle.std.proofs.lemmas.Bool.Decides.{nat_tests}
use Rattle.fd_owner.proofs.Runs.{run_none}
use Rattle.fd_owner.specs.Clears.{Grows}
use Rattle.fd_owner.proofs.run.Run.find.Goals as goal
use Rattle.fd_owner.proofs.run.Run.find.Goals.{else-loop-growing-test, then-loop-growing-test+then-not-goes_on}

pub loop-growing-init : goal.loop-growing-init
loop-growing-init c =
    record {
      grows = rw c.new.ensures.items (run_none c.args.table.now c.args.from c.args.before _ (omega arith) (λ not. grind (arith, nat_tests)));
      most = c.requires.order;
    }

pub loop-growing-preserved : goal.loop-growing-preserved
loop-growing-preserved c =
    record { grows = c.goes_on.ensures.grows c.args.from c.args.before c.loop-growing.invariant.grows; most = grind arith }

pub returns-clause-run : goal.returns-clause-run
returns-clause-run c =
    let grown : Grows c.args.table.now c.args.from c.args.before c.loop-growing-test.growing = elim c.loop-growing-test.branch [
      | else-loop-growing-test w ↦ rw w.growing-is c.loop-growing.invariant.grows
      | then-loop-growing-test+then-not-goes_on w ↦ rw w.growing-is (w.goes_on.ensures.grows c.args.from c.args.before c.loop-growing.invariant.grows)
    ] in
    grind (arith, grown)
