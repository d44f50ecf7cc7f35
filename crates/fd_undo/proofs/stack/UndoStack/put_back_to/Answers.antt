use Rattle.std.proofs.Common.{◌≡◌, true, arith}
use Rattle.std.proofs.lemmas.Grind.{common_steps}
use Rattle.std.proofs.Math.ListN.{drop_of_length-le}
use Rattle.fd_undo.proofs.StackLemmas.{length-frames}
use Rattle.fd_undo.specs.Block.{newest}
use Rattle.fd_undo.proofs.Backs.{Goes, goes, all_restored-made, all_restored-deep, all_restored-place}
use Rattle.fd_undo.proofs.stack.UndoStack.put_back_to.Goals as goal
use Rattle.fd_undo.proofs.stack.UndoStack.put_back_to.Goals.{After-is_stored}

-- the newest stored frame goes
top : (c : After-is_stored) → c.is_stored.result ≡ true
    → Goes c.args.to c.args.self.now.frames c.is_stored.new.self.full c.is_stored.new.self.last c.loop-self.self-inside.count c.loop-self.self-inside.recorded
top c is =
    goes c.is_stored.new.self.full c.is_stored.new.self.last c.loop-self.invariant.left c.is_stored.ensures.same (c.is_stored.ensures.yes is)

pub put_newest-requires-clause-inside : goal.put_newest-requires-clause-inside
put_newest-requires-clause-inside c =
    let t = top (goal.at-put_newest-requires-clause-inside c).After-is_stored c.loop-self-test.true in
    rw (t.own, c.loop-self.invariant.tile, all_restored-place)
    (c.requires.inside (newest c.is_stored.new.self.last.frames).number t.left.least t.within)

pub put_newest-requires-clause-alike : goal.put_newest-requires-clause-alike
put_newest-requires-clause-alike c =
    let t = top (goal.at-put_newest-requires-clause-alike c).After-is_stored c.loop-self-test.true in
    rw (t.own, c.loop-self.invariant.tile, all_restored-place, all_restored-made)
    (λ not. c.requires.alike not (newest c.is_stored.new.self.last.frames).number t.left.least t.within)

pub put_newest-requires-clause-depths : goal.put_newest-requires-clause-depths
put_newest-requires-clause-depths c =
    let t = top (goal.at-put_newest-requires-clause-depths c).After-is_stored c.loop-self-test.true in
    rw (t.own, c.loop-self.invariant.tile, all_restored-deep)
    (c.requires.depths (newest c.is_stored.new.self.last.frames).number t.left.least t.within)

pub loop-self-init : goal.loop-self-init
loop-self-init c = grind (arith, common_steps, length-frames, drop_of_length-le)

pub loop-self-smaller : goal.loop-self-smaller
loop-self-smaller c = grind (arith, top)

pub loop-self-preserved : goal.loop-self-preserved
loop-self-preserved c = grind (arith, top)
