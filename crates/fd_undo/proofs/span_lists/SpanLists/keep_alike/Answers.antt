use Rattle.fd_undo.proofs.Pixelwise.{zip-replicate}
use Rattle.fd_undo.proofs.span_lists.SpanLists.keep_alike.Goals as goal

pub returns : goal.returns
returns c = λ first low. rw (← zip-replicate c.args.place.width c.args.colour c.args.depth) (rw c.whole.ensures at (c.push.ensures.more first low))
