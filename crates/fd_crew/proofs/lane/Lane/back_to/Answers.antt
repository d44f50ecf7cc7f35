use Rattle.std.proofs.Common.{arith}
use Rattle.fd_crew.proofs.Ending.{back_none, back_more}
use Rattle.fd_crew.proofs.lane.Lane.back_to.Goals as goal

pub loop-self-smaller : goal.loop-self-smaller
loop-self-smaller g c = omega (arith, back_more _ _ _ (back_none _) (omega arith) c.back.ensures.moved)

pub loop-self-preserved : goal.loop-self-preserved
loop-self-preserved g c =
    let next = back_more _ _ _ c.loop-self.invariant.moved c.loop-self.invariant.below c.back.ensures.moved in
    record { moved = next.1; above = omega arith; below = omega arith; fits = λ table h. c.back.ensures.fits table (c.loop-self.invariant.fits table h) }
