use Rattle.std.proofs.Common.{◌≡◌, ◌+◌, arith}
use Rattle.fd_events.specs.Bounds.{IsTriangleBox}
use Rattle.fd_events.specs.Draw.{triangles_of}
use Rattle.fd_events.proofs.BoundsLemmas.{CoverNone-apart}
use Rattle.fd_events.proofs.draw.Draw.is_far.Goals as goal

pub returns-in-Some : goal.returns-in-Some
returns-in-Some c = λ far.
    let triangle = c.args.triangle in
    let ts = triangles_of c.args.self.now in
    let box : IsTriangleBox c.in-Some.bounds triangle ts = rw c.in-Some.is at c.kept_bounds.ensures in
    CoverNone-apart c.in-Some.bounds c.args.window ts triangle (triangle + 1) (c.meets.ensures.apart far) (λ i t from to at.
    let same : i ≡ triangle = omega (arith, from, to) in
    (box t (rw same at at)).1)
