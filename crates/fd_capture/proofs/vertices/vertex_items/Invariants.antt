use Rattle.std.proofs.Common.{◌≡◌, Bool, List, length}
use Rattle.serde_json.specs.Data.{Data}
use Rattle.fd_events.specs.declared.draw.Vertex.{Vertex}
use Rattle.fd_json.proofs.Within.{InArray}
use Rattle.fd_capture.specs.Streamed.{together, vertex_read, vertices_seen}
use Rattle.fd_capture.proofs.Streams.{AllSoFar}
use Rattle.fd_capture.proofs.vertices.vertex_items.Given as goal

abbrev pub invariant-items : goal.invariant-items
invariant-items l =
    (front : List Data) × (read : List (Vertex × Bool)) × InArray l.scope.depth l.initial.reader front l.reader
    × AllSoFar (vertex_read l.scope.version) l.well_formed front read × (together read ≡ vertices_seen l.vertices)

abbrev pub decreases-items : goal.decreases-items
decreases-items l = length l.reader
