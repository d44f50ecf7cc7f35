use Rattle.std.proofs.Common.{◌∙◌, refl, arith}
use Rattle.std.proofs.lemmas.Result.{err_from_is_err_and}
use Rattle.fd_cli.proofs.Advancing.{advance_none, advance_more, advance_stopped}
use Rattle.fd_cli.proofs.dialogue.Dialogue.take_bytes.Goals as goal

pub loop-byte-init : goal.loop-byte-init
loop-byte-init g c =
    record { advances = advance_none c.args.self.now (g.W.Sink.contents c.args.sink.now); room = c.requires; failures = refl; flushed = λ was. was }

pub returns-in_err-take_byte-clause-advances : goal.returns-in_err-take_byte-clause-advances
returns-in_err-take_byte-clause-advances g c =
    let p = err_from_is_err_and c.from_residual.result c.from_residual.ensures.1 in
    rw (p.1, p.2)
    (advance_stopped _ c.loop-byte.self _ _ (g.W.Sink.contents c.loop-byte.sink) _ c.args.bytes.now c.loop-byte.byte-index _ (omega arith)
    c.loop-byte.invariant.advances c.in_err-take_byte.ensures.advances)

pub loop-byte-preserved : goal.loop-byte-preserved
loop-byte-preserved g c =
    record {
      advances = advance_more _ c.loop-byte.self _ _ (g.W.Sink.contents c.loop-byte.sink) _ c.args.bytes.now c.loop-byte.byte-index (omega arith)
          c.loop-byte.invariant.advances c.in_ok-take_byte.ensures.advances;
      room = c.in_ok-take_byte.ensures.room;
      failures = c.in_ok-take_byte.ensures.ok ∙ c.loop-byte.invariant.failures;
      flushed = λ was. c.in_ok-take_byte.ensures.passed_on (c.loop-byte.invariant.flushed was);
    }
