use Rattle.std.proofs.Common.{arith}
use Rattle.fd_undo.proofs.RowLemmas.{keeps-pushed}
use Rattle.fd_undo.proofs.span_lists.SpanLists.push.Goals as goal

pub returns-clause-more : goal.returns-clause-more
returns-clause-more c = λ first low. keeps-pushed c.args.span _ _ (grind arith) (grind arith) (grind arith) (grind arith) low
