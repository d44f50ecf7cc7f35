use Rattle.std.proofs.Common.{◌≡◌, ◌+◌, ◌<◌, length, get_or, arith, length-drop}
use Rattle.std.proofs.lemmas.List.{get_or-drop}
use Rattle.fd_undo.specs.Stack.{all_stored}
use Rattle.fd_undo.proofs.RowLemmas.{tail_is}
use Rattle.fd_undo.proofs.StackLemmas.{kept_in_block, kept_in_last}
use Rattle.fd_undo.proofs.KeptAt.{keeps-found}
use Rattle.fd_undo.proofs.store.oldest_whole.Goals as goal
use Rattle.fd_undo.proofs.store.oldest_whole.Goals.{After-block-item}

-- which of the blocks is looked at
within : (c : After-block-item) → c.saturating_sub.result + c.loop-block.block-index < length c.args.full.now
within c = grind (arith, tail_is, length-drop)

block_is : (c : After-block-item) → c.block-item.result ≡ get_or c.args.full.now (c.saturating_sub.result + c.loop-block.block-index) c.block-item.result
block_is c = grind (arith, tail_is, get_or-drop)

pub returns-then-is_some : goal.returns-then-is_some
returns-then-is_some c =
    let d = (goal.at-returns-then-is_some c).After-block-item in
    keeps-found c.args.from c.args.place c.block-item.result.frames (all_stored c.args.full.now c.args.last.now) c.first_whole-number.result
    (λ n. rw (block_is d) (kept_in_block c.args.full.now c.args.last.now.frames c.requires.rise.0 n c.requires.have c.requires.rise.1 _ _ (within d)))
    c.first_whole-number.ensures

pub returns : goal.returns
returns c =
    keeps-found c.args.from c.args.place c.args.last.now.frames (all_stored c.args.full.now c.args.last.now) c.first_whole.result
    (λ n. kept_in_last c.args.full.now c.args.last.now.frames c.requires.rise.0 n c.requires.have c.requires.rise.1) c.first_whole.ensures
