use Rattle.std.proofs.Common.{Some, ap}
use Rattle.std.specs.Prelude.{◌&&◌}
use Rattle.fd_tile.proofs.Cut.{shown_filled, counted_filled}
use Rattle.fd_tile.proofs.Rows.{IsFlat-replicate}
use Rattle.fd_tile.proofs.tile.Tile.fill_depths.Goals as goal

pub invariant_of-self : goal.invariant_of-self
invariant_of-self c =
    let t = c.self.inside in
    let listed = t.made && t.deep in
    let i = c.self.invariant in
    let r = rw (← c.self.view_is) at c.requires in
    record {
      placed = i.placed;
      counted = i.counted;
      deep_counted = counted_filled t.place listed t.depths.items _ c.args.depth i.deep_counted c.fill_all.ensures;
      greatest = λ not. ap Some (r not);
      one_colour = i.one_colour;
      one_depth = IsFlat-replicate t.place c.args.depth _ (shown_filled t.place listed t.depths.items _ c.args.depth i.deep_counted c.fill_all.ensures);
    }

pub returns : goal.returns
returns c =
    let t = c.self.inside in
    let listed = t.made && t.deep in
    rw (← c.self.view_is, shown_filled t.place listed t.depths.items c.fill_all.new.items.items c.args.depth c.self.invariant.deep_counted c.fill_all.ensures)
