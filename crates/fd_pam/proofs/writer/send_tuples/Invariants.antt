use Rattle.std.proofs.Common.{◌≡◌, ◌+◌, ◌-◌, ◌*◌, ◌≤◌, ◌++◌, List, ℕ, length, take}
use Rattle.std.specs.List.{flat_map}
use Rattle.std.specs.Io.KnownBytes.{Appends}
use Rattle.fd_events.specs.Image.{image_at}
use Rattle.fd_pam.specs.Pam.{tuple}
use Rattle.fd_pam.specs.declared.writer.TheConstants.{CHUNK_LEN}
use Rattle.fd_pam.proofs.writer.send_tuples.Given as goal

-- the rows above were sent or wait in the chunk
abbrev pub invariant-loop-y : goal.invariant-loop-y
invariant-loop-y g l =
    record {
      text : List ℕ;
      appended : Appends (g.W.Sink.contents l.fn.sink) (g.W.Sink.contents l.sink) text;
      counted : l.sent ≡ l.fn.sent + length text;
      so_far : text ++ l.chunk.items ≡ flat_map tuple (take (l.y * (g.F.Shows.state l.frame).table.width)
          (image_at (g.F.Shows.state l.frame).table (g.F.Shows.state l.frame).position));
      short : length l.chunk.items ≤ CHUNK_LEN;
      failures : g.W.Sink.failure_count l.sink ≡ g.W.Sink.failure_count l.fn.sink;
    }

-- and so were the pixels to the left in this row
abbrev pub invariant-loop-x : goal.invariant-loop-x
invariant-loop-x g l =
    record {
      text : List ℕ;
      appended : Appends (g.W.Sink.contents l.fn.sink) (g.W.Sink.contents l.sink) text;
      counted : l.sent ≡ l.fn.sent + length text;
      so_far : text ++ l.chunk.items ≡ flat_map tuple (take (l.y * (g.F.Shows.state l.frame).table.width + l.x)
          (image_at (g.F.Shows.state l.frame).table (g.F.Shows.state l.frame).position));
      within : l.x ≤ l.width;
      short : length l.chunk.items ≤ CHUNK_LEN;
      failures : g.W.Sink.failure_count l.sink ≡ g.W.Sink.failure_count l.fn.sink;
    }

abbrev pub decreases-loop-x : goal.decreases-loop-x
decreases-loop-x g l = l.width - l.x
