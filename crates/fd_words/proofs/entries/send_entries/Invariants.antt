use Rattle.std.proofs.Common.{◌≡◌, ◌+◌, ◌*◌, ◌≤◌, ◌++◌, List, ℕ, drop, length}
use Rattle.std.specs.List.{flat_map}
use Rattle.fd_words.specs.Sending.{Waits}
use Rattle.fd_words.specs.Text.{entry_line, entry_list}
use Rattle.fd_words.proofs.entries.send_entries.Given as goal

-- the lines so far are sent or wait, and with those to come they are all
abbrev pub invariant-loop-entry : goal.invariant-loop-entry
invariant-loop-entry g l =
    record {
      front : List ℕ;
      waits : Waits (g.W.Sink.contents l.fn.sink) (g.W.Sink.contents l.sink) l.fn.sent l.sent front l.chunk.items;
      all : front ++ flat_map (entry_line l.version) (drop l.entry-index l.entries) ≡ entry_list l.version l.entries;
      few : length front ≤ 112 * (l.entry-index + 1);
      failures : g.W.Sink.failure_count l.sink ≡ g.W.Sink.failure_count l.fn.sink;
    }
