use Rattle.std.proofs.Common.{◌∙◌, sym}
use Rattle.fd_cli.proofs.Advancing.{finish_none, finish_line, finish_fault}
use Rattle.fd_cli.proofs.dialogue.Dialogue.finish.Goals as goal

pub returns-then-is_empty-clause-finishes : goal.returns-then-is_empty-clause-finishes
returns-then-is_empty-clause-finishes g c =
    finish_none c.args.self.now (g.W.Sink.contents c.args.sink.now) (sym c.is_empty.ensures ∙ c.if-is_empty.true)

pub returns-in-Ok-clause-finishes : goal.returns-in-Ok-clause-finishes
returns-in-Ok-clause-finishes g c =
    finish_line c.args.self.now (record c.args.self.now { session = c.answer.new.session; sent = c.answer.new.sent }) _
    (g.W.Sink.contents c.answer.new.sink) (sym c.is_empty.ensures ∙ c.if-is_empty.false) (rw c.as_slice-line.ensures.value at c.in-Ok.ensures.replies)

pub returns-in-Err-clause-finishes : goal.returns-in-Err-clause-finishes
returns-in-Err-clause-finishes g c =
    finish_fault c.args.self.now (record c.args.self.now { session = c.answer.new.session; sent = c.answer.new.sent }) _
    (g.W.Sink.contents c.answer.new.sink) (sym c.is_empty.ensures ∙ c.if-is_empty.false) (rw c.as_slice-line.ensures.value at c.in-Err.ensures.replies)
