use Rattle.std.proofs.Common.{◌≤◌, ◌-◌, length}
use Rattle.fd_events.specs.Draw.{triangles_of}
use Rattle.fd_tile.specs.declared.place.Place.{Place}
use Rattle.fd_draw.specs.Area.{IsWindow, LiesIn}
use Rattle.fd_draw.specs.Plan.{AreUnreached}
use Rattle.fd_draw.proofs.plan.Planned.next.Given as goal

-- none of the triangles so far is reached
abbrev pub invariant-loop-triangle : goal.invariant-loop-triangle
invariant-loop-triangle l = record {
  from : l.from ≤ l.triangle;
  within : l.triangle ≤ length (triangles_of l.draw);
  passed : (p : Place) → LiesIn l.window p → IsWindow l.window l.draw.picture l.state p → AreUnreached (triangles_of l.draw) l.state p l.from l.triangle;
}

abbrev pub decreases-loop-triangle : goal.decreases-loop-triangle
decreases-loop-triangle l = l.count - l.triangle
