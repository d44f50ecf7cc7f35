use Rattle.std.proofs.Common.{◌≡◌, ◌-◌, ℕ, List}
use Rattle.std.specs.Io.KnownBytes.{Consumes, Appends}
use Rattle.fd_listing.specs.Counting.{StaysFlushed}
use Rattle.fd_cli.specs.Dialogue.{CanCount, IsServing}
use Rattle.fd_cli.specs.Waiting.{Waited}
use Rattle.fd_cli.proofs.serving.serve_table.Given as goal

abbrev pub invariant-loop-count : goal.invariant-loop-count
invariant-loop-count g l =
    record {
      input : List ℕ;
      text : List ℕ;
      consumed : Consumes (g.R.Source.remaining l.fn.source) (g.R.Source.remaining l.source) input;
      appended : Appends (g.W.Sink.contents l.fn.sink) (g.W.Sink.contents l.sink) text;
      serving : IsServing l.fn.table input text l.dialogue;
      waited : Waited (record { contents = g.W.Sink.contents; is_flushed = g.W.Sink.is_flushed }) l.fn.table l.fn.sink l.fn.source l.source input;
      room : CanCount l.dialogue;
      read : g.R.Source.failure_count l.source ≡ g.R.Source.failure_count l.fn.source;
      write : g.W.Sink.failure_count l.sink ≡ g.W.Sink.failure_count l.fn.sink;
      flushed : StaysFlushed (g.W.Sink.is_flushed l.fn.sink) (g.W.Sink.is_flushed l.sink);
    }

abbrev pub decreases-loop-count : goal.decreases-loop-count
decreases-loop-count g l = 268435457 - l.dialogue.bytes
