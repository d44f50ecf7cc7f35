use Rattle.std.proofs.Common.{◌∙◌, Bool, Some, sym, ap}
use Rattle.fd_events.proofs.IndexLemmas.{far_quiet, far_missed}
use Rattle.fd_events.proofs.table.EventTable.is_near.Goals as goal

pub returns-then-may_write-clause-far : goal.returns-then-may_write-clause-far
returns-then-may_write-clause-far c = λ away. far_missed c.args.self.now c.args.position c.args.window c.reach.result c.reach.ensures.value
    (c.meets.ensures.apart away)

pub returns-else-may_write-clause-far : goal.returns-else-may_write-clause-far
returns-else-may_write-clause-far c = λ quiet. far_quiet c.args.self.now c.args.position c.args.window (sym c.may_write.ensures
    ∙ ap (λ (b : Bool). Some b) c.if-may_write.false)
