use Rattle.std.proofs.Common.{refl}
use Rattle.fd_tile.proofs.Cut.{row_read, vec_rows_left, vec_counted}
use Rattle.fd_tile.proofs.tile.Tile.row_mut.Goals as goal

pub invariant_of-self-lent : goal.invariant_of-self-lent
invariant_of-self-lent c w =
    let t = c.self.inside in
    let i = c.self.invariant in
    let r = rw (← c.self.view_is) at c.requires in
    record {
      placed = i.placed;
      counted = λ _. vec_counted t.colours _ (i.counted r.made);
      deep_counted = i.deep_counted;
      greatest = i.greatest;
      one_colour = tt;
      one_depth = i.one_depth;
    }

pub returns : goal.returns
returns c =
    let t = c.self.inside in
    let r = rw (← c.self.view_is) at c.requires in
    let start = rw c.get-place.ensures at c.row_start-start.ensures in
    let counted = c.self.invariant.counted r.made in (
      (refl, λ w. rw (← c.self.view_is, r.made, c.get-place.ensures, vec_rows_left t.place t.colours counted c.args.y _ r.crossed start w)),
      record {
        writes_back = tt;
        value = rw (← c.self.view_is, r.made, c.part_mut.ensures.value, c.get-place.ensures)
            (row_read t.place t.colours.items counted c.args.y c.row_start-start.result r.crossed start);
      },
    )
