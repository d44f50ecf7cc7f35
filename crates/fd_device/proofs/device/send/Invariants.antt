use Rattle.std.proofs.Common.{length, ◌-◌, ◌≡◌, ◌≤◌, ◌+◌, take}
use Rattle.std.specs.Io.KnownBytes.{Appends}
use Rattle.fd_device.proofs.device.send.Given as goal

abbrev pub invariant-loop-done : goal.invariant-loop-done
invariant-loop-done g l =
    record {
      within : l.done ≤ length l.bytes;
      sent : l.sent ≡ l.fn.sent + l.done;
      appended : Appends (g.W.Sink.contents l.fn.sink) (g.W.Sink.contents l.sink) (take l.done l.bytes);
      failures : g.W.Sink.failure_count l.sink ≡ g.W.Sink.failure_count l.fn.sink;
    }

abbrev pub decreases-loop-done : goal.decreases-loop-done
decreases-loop-done g l = length l.bytes - l.done
