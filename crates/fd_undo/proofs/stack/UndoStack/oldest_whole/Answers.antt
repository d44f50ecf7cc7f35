use Rattle.std.proofs.Common.{ap}
use Rattle.fd_undo.specs.Undo.{Undo}
use Rattle.fd_undo.specs.Stack.{all_stored}
use Rattle.fd_undo.proofs.Backs.{whole_frame}
use Rattle.fd_undo.proofs.stack.UndoStack.oldest_whole.Goals as goal

pub returns : goal.returns
returns c =
    let stored = all_stored c.self.inside.store.full c.self.inside.store.last in
    whole_frame stored c.self.inside.count c.args.self.now.frames c.args.from c.args.place c.oldest_whole.result c.self.invariant.rise
    (ap (λ (u : Undo). u.frames) c.self.view_is) c.requires c.oldest_whole.ensures
