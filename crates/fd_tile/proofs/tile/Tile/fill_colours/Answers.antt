use Rattle.fd_tile.proofs.Cut.{shown_filled, counted_filled}
use Rattle.fd_tile.proofs.Rows.{IsFlat-replicate}
use Rattle.fd_tile.proofs.tile.Tile.fill_colours.Goals as goal

pub invariant_of-self : goal.invariant_of-self
invariant_of-self c =
    let t = c.self.inside in
    let i = c.self.invariant in
    record {
      placed = i.placed;
      counted = counted_filled t.place t.made t.colours.items _ c.args.colour i.counted c.fill_all.ensures;
      deep_counted = i.deep_counted;
      greatest = i.greatest;
      one_colour = IsFlat-replicate t.place c.args.colour _ (shown_filled t.place t.made t.colours.items _ c.args.colour i.counted c.fill_all.ensures);
      one_depth = i.one_depth;
    }

pub returns : goal.returns
returns c =
    let t = c.self.inside in
    rw (← c.self.view_is, shown_filled t.place t.made t.colours.items c.fill_all.new.items.items c.args.colour c.self.invariant.counted c.fill_all.ensures)
