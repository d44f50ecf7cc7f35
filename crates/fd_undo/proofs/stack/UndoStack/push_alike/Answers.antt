use Rattle.std.proofs.Common.{arith, ap, length}
use Rattle.fd_undo.specs.Stack.{stored_in, all_stored}
use Rattle.fd_undo.specs.Undo.{Undo}
use Rattle.fd_undo.proofs.Pixelwise.{length-alike}
use Rattle.fd_undo.proofs.StackLemmas.{length-frames, pushed_rises, pushed_pixels}
use Rattle.fd_undo.proofs.stack.UndoStack.push_alike.Goals as goal

pub invariant_of-self-2 : goal.invariant_of-self-2
invariant_of-self-2 c =
    let low = stored_in c.make_room.new.self.full in
    let rises = pushed_rises low c.make_room.new.self.last.frames c.push_alike.new.self.last.frames in
    grind (arith, rises, pushed_pixels low c.make_room.new.self.last.frames c.push_alike.new.self.last.frames, length-alike)

pub returns-then-self-clause-wanted : goal.returns-then-self-clause-wanted
returns-then-self-clause-wanted c less =
    let long = length-frames 0 (all_stored c.self.inside.store.full c.self.inside.store.last) c.self.inside.count c.self.invariant.rise in
    let same = ap (λ (u : Undo). length u.frames) c.self.view_is in
    absurd (omega (arith, less, long, same, c.if-self.true))
