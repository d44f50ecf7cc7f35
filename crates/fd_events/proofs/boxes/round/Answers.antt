use Rattle.std.proofs.Common.{arith}
use Rattle.std.proofs.lemmas.Option.{slice_get-get_or}
use Rattle.fd_events.proofs.BoundsLemmas.{IsRound-joined}
use Rattle.fd_events.proofs.boxes.round.Goals as goal

pub loop-triangle-preserved : goal.loop-triangle-preserved
loop-triangle-preserved c = λ ts are.
    IsRound-joined ts c.args.boxes.now c.args.first c.loop-triangle.triangle c.loop-triangle.bounds _ c.join-bounds.result are
    c.loop-triangle.auto.triangle (slice_get-get_or c.args.boxes.now c.loop-triangle.triangle _ (omega (arith, c.loop-triangle-test.true, c.requires.last)))
    (c.loop-triangle.invariant ts are) c.join-bounds.ensures.value
