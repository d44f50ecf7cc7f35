use Rattle.std.proofs.Common.{refl, arith}
use Rattle.fd_tile.proofs.Cut.{row_read, vec_rows_left, vec_counted}
use Rattle.fd_tile.proofs.tile.Tile.depth_row_mut.Goals as goal

pub invariant_of-self-lent : goal.invariant_of-self-lent
invariant_of-self-lent c w =
    let t = c.self.inside in
    let i = c.self.invariant in
    let r = rw (← c.self.view_is) at c.requires in
    record {
      placed = i.placed;
      counted = i.counted;
      deep_counted = λ _. vec_counted t.depths _ (i.deep_counted (rw (r.made, r.deep) refl));
      greatest = λ not. grind (arith, not, r.deep);
      one_colour = i.one_colour;
      one_depth = tt;
    }

pub returns : goal.returns
returns c =
    let t = c.self.inside in
    let r = rw (← c.self.view_is) at c.requires in
    let start = rw c.get-place.ensures at c.row_start-start.ensures in
    let counted = c.self.invariant.deep_counted (rw (r.made, r.deep) refl) in (
      (refl, λ w. rw (← c.self.view_is, r.made, r.deep, c.get-place.ensures, vec_rows_left t.place t.depths counted c.args.y _ r.crossed start w)),
      record {
        writes_back = tt;
        value = rw (← c.self.view_is, r.made, r.deep, c.part_mut.ensures.value, c.get-place.ensures)
            (row_read t.place t.depths.items counted c.args.y c.row_start-start.result r.crossed start);
      },
    )
