use Rattle.fd_tile.proofs.Cut.{IsTile-filled}
use Rattle.fd_tile.proofs.tile.Tile.place.Goals as goal

pub returns-clause-filled : goal.returns-clause-filled
returns-clause-filled c =
    let t = c.self.inside in
    rw (← c.self.view_is) (IsTile-filled t.place t.made t.deep t.colours.items t.depths.items t.flat_colour t.flat_depth c.self.invariant)
