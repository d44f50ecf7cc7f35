use Rattle.std.proofs.Common.{rules}
use Rattle.fd_cli.proofs.reply.reply.Goals as goal

pub returns-in-Ok-Goto-clause-failures : goal.returns-in-Ok-Goto-clause-failures
returns-in-Ok-Goto-clause-failures g c = let same = g.met.W.Sink.only_told c.go.new.teller c.args.sink.now c.go.ensures.told in search rules
