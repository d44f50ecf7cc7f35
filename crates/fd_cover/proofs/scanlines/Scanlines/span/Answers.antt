use Rattle.std.proofs.Common.{arith}
use Rattle.fd_cover.proofs.ScanlinesLemmas.{covered_in_row, span_of_edges, none_of_edges}
use Rattle.fd_cover.proofs.scanlines.Scanlines.span.Goals as goal

pub returns-then-left-right-clause-span : goal.returns-then-left-right-clause-span
returns-then-left-right-clause-span c =
    let at = c.self.inside in
    rw (← c.self.view_is)
    (span_of_edges _ _ _ _ _ _ _ _ _ _ _ _ _
    (covered_in_row at.triangle at.y at.first at.second at.third c.self.invariant.1)
    c.within-left.ensures.columns c.within-left-2.ensures.columns c.within-left-3.ensures.columns (
      (c.within-left.ensures.first, c.within-left.ensures.last),
      ((c.within-left-2.ensures.first, c.within-left-2.ensures.last), (c.within-left-3.ensures.first, c.within-left-3.ensures.last)),
    )
    (omega arith))

pub returns-else-left-right-clause-none : goal.returns-else-left-right-clause-none
returns-else-left-right-clause-none c =
    let at = c.self.inside in
    rw (← c.self.view_is)
    (none_of_edges _ _ _ _ _ _ _ _ _ _ _ _ _
    (covered_in_row at.triangle at.y at.first at.second at.third c.self.invariant.1)
    c.within-left.ensures.columns c.within-left-2.ensures.columns c.within-left-3.ensures.columns (
      (c.within-left.ensures.first, c.within-left.ensures.last),
      ((c.within-left-2.ensures.first, c.within-left-2.ensures.last), (c.within-left-3.ensures.first, c.within-left-3.ensures.last)),
    )
    (omega arith))
