use Rattle.std.proofs.Common.{◌≡◌, ◌+◌, ◌*◌, ◌≤◌, ◌++◌, List, ℕ, drop, length}
use Rattle.fd_words.specs.Sending.{Waits}
use Rattle.fd_words.specs.Text.{event_lines, event_list}
use Rattle.fd_words.proofs.events.send_events.Given as goal

-- the lines so far are sent or wait, and with those to come they are all
abbrev pub invariant-loop-index : goal.invariant-loop-index
invariant-loop-index g l =
    record {
      front : List ℕ;
      waits : Waits (g.W.Sink.contents l.fn.sink) (g.W.Sink.contents l.sink) l.fn.sent l.sent front l.chunk.items;
      all : front ++ event_lines (l.index + 1) (drop l.index l.table.events) (drop l.index l.table.flags) ≡ event_list l.table l.position;
      few : length front ≤ 256 * (l.index + 1);
      failures : g.W.Sink.failure_count l.sink ≡ g.W.Sink.failure_count l.fn.sink;
    }
