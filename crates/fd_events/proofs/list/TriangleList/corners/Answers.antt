use Rattle.std.proofs.Common.{arith}
use Rattle.fd_events.specs.Draw.{listed}
use Rattle.fd_events.proofs.DrawLemmas.{length-triangles_of_list, slice_get-triangles_of_list}
use Rattle.fd_events.proofs.list.TriangleList.corners.Goals as goal

pub vertex-requires : goal.vertex-requires
vertex-requires c = omega (arith, length-triangles_of_list c.args.self.now.picture (listed c.args.self.now))

pub vertex-requires-2 : goal.vertex-requires-2
vertex-requires-2 c = omega (arith, length-triangles_of_list c.args.self.now.picture (listed c.args.self.now))

pub vertex-requires-3 : goal.vertex-requires-3
vertex-requires-3 c = omega (arith, length-triangles_of_list c.args.self.now.picture (listed c.args.self.now))

pub returns : goal.returns
returns c = grind (arith, slice_get-triangles_of_list)
