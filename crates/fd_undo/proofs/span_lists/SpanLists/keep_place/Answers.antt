use Rattle.fd_undo.proofs.RowLemmas.{span_pixels-place}
use Rattle.fd_undo.proofs.span_lists.SpanLists.keep_place.Goals as goal

pub returns-clause-more : goal.returns-clause-more
returns-clause-more c = λ first low.
    rw (← span_pixels-place c.args.place c.of_place.result c.args.old.now c.args.depths.now c.of_place.ensures) (c.push.ensures.more first low)
