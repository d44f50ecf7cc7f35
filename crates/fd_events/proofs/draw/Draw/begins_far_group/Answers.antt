use Rattle.std.proofs.Common.{◌+◌, arith}
use Rattle.fd_events.specs.Draw.{triangles_of}
use Rattle.fd_events.specs.Limits.{group_size}
use Rattle.fd_events.proofs.BoundsLemmas.{CoverNone-apart}
use Rattle.fd_events.proofs.draw.Draw.begins_far_group.Goals as goal

pub returns-then-triangle-eq0 : goal.returns-then-triangle-eq0
returns-then-triangle-eq0 c = λ far.
    let triangle = c.args.triangle in
    CoverNone-apart c.group_bounds.result c.args.window (triangles_of c.args.self.now) triangle (triangle + group_size) (c.meets.ensures.apart far)
    (λ i t from to. c.group_bounds.ensures.covered i t (omega (arith, from)) (omega (arith, to)))
