use Rattle.fd_draw.proofs.PixelTests.{Paints-filled}
use Rattle.fd_draw.proofs.Strips.{Paints-tile, tile_room}
use Rattle.fd_draw.proofs.clear.clear_tile.Goals as goal

pub keep_rows-requires-clause-room : goal.keep_rows-requires-clause-room
keep_rows-requires-clause-room c = rw c.place-place.ensures.value (tile_room c.args.canvas.now.tile.now c.place-place.ensures.filled c.requires.room)

pub returns : goal.returns
returns c =
    let kept = rw c.place-place.ensures.value at c.keep_rows.ensures.painted in
    record {
      lent = record { tile = c.keep_rows.ensures.lent.tile; undo = c.keep_rows.ensures.lent.undo };
      painted = rw c.fill.ensures (Paints-filled c.args.clear (Paints-tile c.args.canvas.now.tile.now c.place-place.ensures.filled kept));
    }
