use Rattle.std.proofs.Common.{◌-◌, ◌≤◌, length}
use Rattle.fd_events.specs.Bounds.{CoverNone}
use Rattle.fd_events.specs.Draw.{triangles_of}
use Rattle.fd_events.proofs.draw.Draw.next_listed.Given as goal

abbrev pub invariant-loop-next : goal.invariant-loop-next
invariant-loop-next l = record {
  from : l.triangle ≤ l.next;
  last : l.next ≤ length (triangles_of l.self);
  missed : CoverNone l.window (triangles_of l.self) l.triangle l.next;
}

abbrev pub decreases-loop-next : goal.decreases-loop-next
decreases-loop-next l = l.count - l.next
