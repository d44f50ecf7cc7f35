use Rattle.std.proofs.Common.{arith}
use Rattle.std.proofs.lemmas.Bool.Decides.{nat_tests}
use Rattle.fd_undo.proofs.KeptAt.{turn, more_kept}
use Rattle.fd_undo.proofs.kept.add_kept_in.Goals as goal

pub loop-span-preserved : goal.loop-span-preserved
loop-span-preserved c =
    let t = turn c.args.pixel.0 c.args.pixel.1 c.loop-span-test.true c.span-item.is c.loop-span.invariant.at c.holds.ensures
    c.listed_colours-first_colour.ensures c.listed_depths-first_depth.ensures in
    grind (arith, nat_tests, more_kept, t)
