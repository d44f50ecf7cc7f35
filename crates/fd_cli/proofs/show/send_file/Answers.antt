use Rattle.std.proofs.Common.{ap, length, arith, false}
use Rattle.std.proofs.lemmas.Result.{err_from_is_err_and}
use Rattle.fd_pam.specs.Pam.{pam, tuples}
use Rattle.fd_device.proofs.Transfers.{puts_all, puts_then, puts_broken}
use Rattle.fd_cli.proofs.Shows.{length-show}
use Rattle.fd_cli.proofs.show.send_file.Goals as goal

pub send-requires : goal.send-requires
send-requires g c = omega (arith, c.requires.room, c.requires.short, length-show c.args.session.now, ap length c.requires.line)

pub returns-in_err-send-clause-puts : goal.returns-in_err-send-clause-puts
returns-in_err-send-clause-puts g c =
    let p = err_from_is_err_and c.from_residual.result c.from_residual.ensures.1 in
    rw (p.1) (puts_broken _ _ _ _ _ (pam c.args.session.now) (rw c.requires.line at c.in_err-send.ensures.puts))

pub send-requires-2 : goal.send-requires-2
send-requires-2 g c =
    let first = puts_all _ _ _ _ _ c.in_ok-send.ensures.puts in
    omega (arith, first.1, c.requires.room, c.requires.short, length-show c.args.session.now, ap length c.requires.line, ap length c.requires.head)

pub returns-in_err-send-2-clause-puts : goal.returns-in_err-send-2-clause-puts
returns-in_err-send-2-clause-puts g c =
    let p = err_from_is_err_and c.from_residual-in_err-send-2.result c.from_residual-in_err-send-2.ensures.1 in
    rw (p.1)
    (puts_then _ (g.W.Sink.contents c.send.new.sink) _ _ c.send.new.sent _ _ (pam c.args.session.now) false (rw c.requires.line at c.in_ok-send.ensures.puts)
    (puts_broken _ _ _ _ _ (tuples c.args.session.now) (rw c.requires.head at c.in_err-send-2.ensures.puts)))

pub send_body-requires : goal.send_body-requires
send_body-requires g c =
    let first = puts_all _ _ _ _ _ c.in_ok-send.ensures.puts in
    let second = puts_all _ _ _ _ _ c.in_ok-send-2.ensures.puts in
    let parts = length-show c.args.session.now in
    omega (arith, first.1, second.1, c.requires.room, c.requires.short, parts, ap length c.requires.line, ap length c.requires.head)

pub returns-clause-puts : goal.returns-clause-puts
returns-clause-puts g c =
    puts_then _ (g.W.Sink.contents c.send.new.sink) _ _ c.send.new.sent _ _ (pam c.args.session.now) _ (rw c.requires.line at c.in_ok-send.ensures.puts)
    (puts_then _ (g.W.Sink.contents c.send-2.new.sink) _ _ c.send-2.new.sent _ _ (tuples c.args.session.now) _
    (rw c.requires.head at c.in_ok-send-2.ensures.puts) c.send_body.ensures.puts)
