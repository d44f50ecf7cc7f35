use Rattle.std.proofs.Common.{arith}
use Rattle.fd_undo.proofs.RowLemmas.{span_pixels-row, keeps-grown, held-grown}
use Rattle.fd_undo.proofs.span_lists.SpanLists.keep.Goals as goal

pub invariant_of-self : goal.invariant_of-self
invariant_of-self c = held-grown c.in-Some.ensures c.requires.row (grind arith) (grind arith) (grind arith) (grind arith)

pub returns-in-Some-clause-more : goal.returns-in-Some-clause-more
returns-in-Some-clause-more c = keeps-grown c.in-Some.ensures c.requires.row (grind arith) (grind arith) (grind arith) (grind arith)

pub returns-clause-more : goal.returns-clause-more
returns-clause-more c =
    rw (← span_pixels-row c.args.row c.args.old.now c.args.depths.now c.requires.row) (c.push.ensures.more c.args.first c.requires.first)
