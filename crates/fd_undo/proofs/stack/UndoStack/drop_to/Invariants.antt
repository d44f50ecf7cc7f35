use Rattle.std.proofs.Common.{◌≡◌}
use Rattle.fd_undo.specs.Stack.{all_stored}
use Rattle.fd_undo.proofs.Backs.{IsLeft}
use Rattle.fd_undo.proofs.stack.UndoStack.drop_to.Given as goal

abbrev pub invariant-loop-self : goal.invariant-loop-self
invariant-loop-self l = record {
  fresh : l.self-inside.opens_fresh ≡ l.fn.self.opens_fresh;
  left : IsLeft l.to l.fn.self.frames (all_stored l.self-inside.store.full l.self-inside.store.last) l.self-inside.count l.self-inside.recorded;
}

abbrev pub decreases-loop-self : goal.decreases-loop-self
decreases-loop-self l = l.self-inside.count
