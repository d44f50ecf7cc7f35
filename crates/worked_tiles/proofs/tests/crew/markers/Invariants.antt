use Rattle.std.proofs.Common.{◌≡◌, length}
use Rattle.worked_tiles.proofs.tests.crew.markers.Given as goal

abbrev pub invariant-loop : goal.invariant-loop
invariant-loop l = length l.events.items ≡ l.counter
