use Rattle.std.proofs.lemmas.Grind.{common_steps}
use Rattle.std.proofs.Common.{arith, refl}
use Rattle.fd_undo.proofs.KeptAt.{turn}
use Rattle.fd_undo.proofs.kept.kept_in.Goals as goal

pub returns-then-left-eq0 : goal.returns-then-left-eq0
returns-then-left-eq0 c =
    let t = turn c.args.x c.args.y c.loop-span-test.true c.span-item.is c.loop-span.invariant.at c.holds.ensures refl refl in
    grind (arith, common_steps, t)

pub loop-span-preserved : goal.loop-span-preserved
loop-span-preserved c =
    let t = turn c.args.x c.args.y c.loop-span-test.true c.span-item.is c.loop-span.invariant.at c.holds.ensures c.listed_colours-first_colour.ensures
    c.listed_depths-first_depth.ensures in
    grind (arith, common_steps, t)
