use Rattle.std.proofs.Common.{◌≡◌, ◌+◌, ◌-◌, ◌^◌, min, List, length}
use Rattle.serde_json.specs.Data.{Data}
use Rattle.fd_json.proofs.Within.{InArray}
use Rattle.fd_capture.specs.Fault.{Gives}
use Rattle.fd_capture.specs.Listed.{few_events}
use Rattle.fd_capture.proofs.events.event_items.Given as goal

abbrev pub invariant-items : goal.invariant-items
invariant-items l = (front : List Data) × InArray l.scope.depth l.initial.reader front l.reader × (l.number ≡ min (length front + 1) (2 ^ 32 - 1))
    × Gives (λ v. v.items) l.events (few_events l.scope.version front)

abbrev pub decreases-items : goal.decreases-items
decreases-items l = length l.reader
