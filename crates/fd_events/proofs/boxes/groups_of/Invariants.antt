use Rattle.std.proofs.Common.{◌≡◌, List, length}
use Rattle.fd_events.specs.Bounds.{AreBoxesOf, AreRoundGroups}
use Rattle.fd_events.specs.Draw.{Triangle}
use Rattle.fd_events.proofs.boxes.groups_of.Given as goal

abbrev pub invariant-loop-group : goal.invariant-loop-group
invariant-loop-group l = (length l.groups.items ≡ l.group) × ((ts : List Triangle) → AreBoxesOf l.boxes ts → AreRoundGroups l.groups.items ts)
