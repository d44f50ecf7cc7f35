use Rattle.std.proofs.Common.{◌∙◌, take, drop, arith}
use Rattle.std.proofs.Math.Seq.{take-add}
use Rattle.std.proofs.KnownBytes.{Appends-trans}
use Rattle.std.proofs.lemmas.List.{take_rest, length-drop}
use Rattle.std.proofs.lemmas.Result.{err_from_is_err_and}
use Rattle.fd_device.proofs.Transfers.{puts_front}
use Rattle.fd_device.proofs.device.send.Goals as goal

pub returns-in_err-taken-clause-puts : goal.returns-in_err-taken-clause-puts
returns-in_err-taken-clause-puts g c =
    let p = err_from_is_err_and c.from_residual.result c.from_residual.ensures.1 in
    rw p.1
    (puts_front _ (g.W.Sink.contents c.loop-done.sink) _ _ _ c.args.bytes.now c.loop-done.done (omega (arith, c.loop-done-test.true))
    c.loop-done.invariant.appended c.loop-done.invariant.sent c.in_err-taken.ensures.bytes)

pub loop-done-preserved : goal.loop-done-preserved
loop-done-preserved g c =
    let taken = simp take_rest at c.in_ok-taken.ensures.bytes in
    record {
      within = omega (arith, taken.0, length-drop c.loop-done.done c.args.bytes.now, c.loop-done.invariant.within);
      sent = omega (arith, c.loop-done.invariant.sent);
      appended =
          rw (take-add c.loop-done.done c.in_ok-taken.taken c.args.bytes.now)
          (Appends-trans _ (g.W.Sink.contents c.loop-done.sink) _ (take c.loop-done.done c.args.bytes.now)
          (take c.in_ok-taken.taken (drop c.loop-done.done c.args.bytes.now)) c.loop-done.invariant.appended taken.2);
      failures = c.in_ok-taken.ensures.failures ∙ c.loop-done.invariant.failures;
    }
