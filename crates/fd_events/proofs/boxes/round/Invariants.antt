use Rattle.std.proofs.Common.{List}
use Rattle.fd_events.specs.Bounds.{AreBoxesOf, IsRound, triangles_between}
use Rattle.fd_events.specs.Draw.{Triangle}
use Rattle.fd_events.proofs.boxes.round.Given as goal

abbrev pub invariant-loop-triangle : goal.invariant-loop-triangle
invariant-loop-triangle l = (ts : List Triangle) → AreBoxesOf l.boxes ts → IsRound l.bounds (triangles_between l.first l.triangle ts)
