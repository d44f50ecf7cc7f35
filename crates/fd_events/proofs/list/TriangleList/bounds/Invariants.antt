use Rattle.fd_events.specs.Bounds.{IsRound, triangles_between}
use Rattle.fd_events.specs.Draw.{triangles_of}
use Rattle.fd_events.proofs.list.TriangleList.bounds.Given as goal

abbrev pub invariant-loop-triangle : goal.invariant-loop-triangle
invariant-loop-triangle l = IsRound l.bounds (triangles_between l.first l.triangle (triangles_of l.self))
