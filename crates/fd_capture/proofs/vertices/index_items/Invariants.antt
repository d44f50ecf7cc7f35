use Rattle.std.proofs.Common.{List, length}
use Rattle.serde_json.specs.Data.{Data}
use Rattle.fd_json.proofs.Within.{InArray}
use Rattle.fd_capture.specs.Field.{unsigned_32}
use Rattle.fd_capture.proofs.Streams.{AllSoFar}
use Rattle.fd_capture.proofs.vertices.index_items.Given as goal

abbrev pub invariant-items : goal.invariant-items
invariant-items l = (front : List Data) × InArray l.scope.depth l.initial.reader front l.reader × AllSoFar unsigned_32 l.well_formed front l.indices.items

abbrev pub decreases-items : goal.decreases-items
decreases-items l = length l.reader
