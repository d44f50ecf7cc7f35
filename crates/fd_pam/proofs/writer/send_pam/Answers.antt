use Rattle.fd_pam.specs.Pam.{tuples}
use Rattle.fd_device.proofs.Transfers.{puts_then}
use Rattle.fd_pam.proofs.writer.send_pam.Goals as goal

pub returns-clause-puts : goal.returns-clause-puts
returns-clause-puts g c =
    puts_then _ (g.W.Sink.contents c.send.new.sink) _ _ c.send.new.sent _ c.args.header.now (tuples (g.F.Shows.state c.args.frame.now)) _
    (rw c.as_bytes.ensures.value at c.in_ok-send.ensures.puts) c.send_tuples.ensures.puts
