use Rattle.std.proofs.Common.{◌≡◌, take, Ok}
use Rattle.fd_listing.specs.Counting.{StaysFlushed}
use Rattle.fd_cli.specs.Dialogue.{CanCount, Advances}
use Rattle.fd_cli.proofs.dialogue.Dialogue.take_bytes.Given as goal

abbrev pub invariant-loop-byte : goal.invariant-loop-byte
invariant-loop-byte g l =
    record {
      advances : Advances l.fn.self l.self (g.W.Sink.contents l.fn.sink) (g.W.Sink.contents l.sink) (take l.byte-index l.bytes) (Ok tt);
      room : CanCount l.self;
      failures : g.W.Sink.failure_count l.sink ≡ g.W.Sink.failure_count l.fn.sink;
      flushed : StaysFlushed (g.W.Sink.is_flushed l.fn.sink) (g.W.Sink.is_flushed l.sink);
    }
