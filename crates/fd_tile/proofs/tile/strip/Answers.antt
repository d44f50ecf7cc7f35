use Rattle.fd_tile.proofs.Cut.{strip_row}
use Rattle.fd_tile.proofs.tile.strip.Goals as goal

pub returns-clause-rows : goal.returns-clause-rows
returns-clause-rows g c = strip_row c.args.place.now c.args.items.now c.args.y c.row_start-start.result c.args.count c.row_start-end.result
    c.requires.counted c.requires.from_top c.requires.to_bottom c.row_start-start.ensures c.row_start-end.ensures
