use Rattle.std.proofs.Common.{ap, ◌∙◌}
use Rattle.fd_cover.specs.Bounds.{joined_box}
use Rattle.fd_events.specs.Draw.{triangles_of}
use Rattle.fd_events.proofs.BoundsLemmas.{IsRound-further}
use Rattle.fd_events.proofs.list.TriangleList.bounds.Goals as goal

pub loop-triangle-preserved : goal.loop-triangle-preserved
loop-triangle-preserved c =
    IsRound-further (triangles_of c.args.self.now) c.args.first c.loop-triangle.triangle c.tri.result c.loop-triangle.bounds c.join-bounds.result
    c.loop-triangle.auto.triangle c.tri.ensures c.loop-triangle.invariant.value
    (c.join-bounds.ensures.value ∙ ap (joined_box c.loop-triangle.bounds) c.of.ensures.value)
