use Rattle.std.proofs.Common.{arith}
use Rattle.std.proofs.lemmas.Option.{slice_get_read}
use Rattle.fd_events.proofs.DrawLemmas.{corner_below, index_in_range, slice_get-listed}
use Rattle.fd_events.proofs.list.TriangleList.vertex.Goals as goal

pub index-requires : goal.index-requires
index-requires c =
    let made = rw c.if-self.true at c.self.invariant.0 in
    let below = rw (← c.self.view_is, c.if-self.true) at c.requires in
    grind (arith, corner_below)

pub index-requires-then-self : goal.index-requires-then-self
index-requires-then-self c =
    let made = rw c.if-self.true at c.self.invariant.0 in
    let below = rw (← c.self.view_is, c.if-self.true) at c.requires in
    grind (arith, corner_below, slice_get_read, index_in_range)

pub returns-else-self : goal.returns-else-self
returns-else-self c =
    let below = rw (← c.self.view_is, c.if-self.false) at c.requires in
    rw (← c.self.view_is, c.if-self.false) (grind (arith, slice_get_read))

pub returns-then-self : goal.returns-then-self
returns-then-self c =
    let made = rw c.if-self.true at c.self.invariant.0 in
    let below = rw (← c.self.view_is, c.if-self.true) at c.requires in
    rw (← c.self.view_is, c.if-self.true) (grind (arith, corner_below, slice_get_read, index_in_range, slice_get-listed))
