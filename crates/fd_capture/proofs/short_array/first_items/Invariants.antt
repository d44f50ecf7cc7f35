use Rattle.std.proofs.Common.{◌≡◌, List, length, take}
use Rattle.serde_json.specs.Data.{Data}
use Rattle.fd_json.proofs.Within.{InArray}
use Rattle.fd_capture.proofs.Streams.{AllSoFar}
use Rattle.fd_capture.proofs.short_array.first_items.Given as goal

abbrev pub invariant-items : goal.invariant-items
invariant-items g l =
    (front : List Data) × InArray l.scope.depth l.initial.reader front l.reader
    × (xs : List g.row.T.Denot) × AllSoFar g.T.FromTokens.of_data l.well_formed front xs × (l.values.items ≡ take 5 xs)

abbrev pub decreases-items : goal.decreases-items
decreases-items g l = length l.reader
