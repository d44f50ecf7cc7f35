use Rattle.std.proofs.Common.{refl, true}
use Rattle.fd_session.proofs.still.Still.start.Goals as goal

pub invariant_of-result : goal.invariant_of-result
invariant_of-result c = ((c.in_ok-frame.ensures.opened true).0, rw c.in_ok-frame.ensures.workers c.requires.0, rw c.in_ok-frame.ensures.workers c.requires.1)

pub returns-clause-ok : goal.returns-clause-ok
returns-clause-ok c = rw (c.in_ok-frame.ensures.table, (c.in_ok-frame.ensures.opened true).1) refl
