use Rattle.std.proofs.Common.{arith}
use Rattle.std.proofs.lemmas.Grind.{common_steps}
use Rattle.std.proofs.Math.ListN.{drop_of_length-le}
use Rattle.fd_undo.proofs.StackLemmas.{length-frames}
use Rattle.fd_undo.proofs.Backs.{goes}
use Rattle.fd_undo.proofs.stack.UndoStack.drop_to.Goals as goal

pub loop-self-init : goal.loop-self-init
loop-self-init c = grind (arith, common_steps, length-frames, drop_of_length-le)

pub loop-self-smaller : goal.loop-self-smaller
loop-self-smaller c = grind (arith, goes c.is_stored.new.self.full c.is_stored.new.self.last c.loop-self.invariant.left)

pub loop-self-preserved : goal.loop-self-preserved
loop-self-preserved c = grind (arith, goes c.is_stored.new.self.full c.is_stored.new.self.last c.loop-self.invariant.left)
