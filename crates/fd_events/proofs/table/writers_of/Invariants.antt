use Rattle.std.proofs.Common.{◌≡◌, map, take}
use Rattle.std.specs.Prelude.{not}
use Rattle.fd_cover.specs.Bounds.{is_empty}
use Rattle.fd_events.specs.Reach.{box_of}
use Rattle.fd_events.proofs.table.writers_of.Given as goal

abbrev pub invariant-loop-reach : goal.invariant-loop-reach
invariant-loop-reach l = l.writers.items ≡ map (λ reach. not (is_empty (box_of reach))) (take l.reach-index l.reaches)
