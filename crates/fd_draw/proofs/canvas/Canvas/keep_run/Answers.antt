use Rattle.std.proofs.Common.{◌∙◌, refl, sym, ap, length, arith}
use Rattle.fd_tile.proofs.Pixels.{length-row_of, length-depth_row_of, row_in-flat}
use Rattle.std.proofs.lemmas.List.{take-replicate, drop-replicate, length-replicate}
use Rattle.fd_undo.proofs.FrameLemmas.{length-kept_row, length-zip_equal}
use Rattle.fd_draw.specs.declared.canvas.Canvas.{Canvas}
use Rattle.fd_draw.proofs.Painting.{part_len, Paints-kept}
use Rattle.fd_draw.proofs.canvas.Canvas.keep_run.Goals as goal

pub keep_known-requires-clause-known : goal.keep_known-requires-clause-known
keep_known-requires-clause-known c = grind (arith, row_in-flat, take-replicate, drop-replicate, length-replicate)

pub returns : goal.returns
returns c =
    let run = c.requires.run in
    let read = c.place-place.ensures.value in
    let canvas : Canvas = c.args.self.now in
    let long = part_len read run _ (ap length c.row.ensures ∙ length-row_of canvas.tile.now c.args.run.y canvas.filled run.crossed) in
    let deep = part_len read run _ (ap length c.depth_row.ensures ∙ length-depth_row_of canvas.tile.now c.args.run.y canvas.filled run.crossed) in
    record {
      lent = record { tile = refl; undo = refl };
      painted = Paints-kept read run canvas.filled canvas.begun c.row.ensures c.depth_row.ensures c.keep_known.ensures;
      spans = omega (arith, c.requires.room.spans, ap (λ u. u.spans_left) c.keep_known.ensures);
      pixels = omega (
        arith,
        c.requires.room.pixels,
        long,
        length-kept_row,
        length-zip_equal _ _ (deep ∙ sym long),
        ap (λ u. u.pixels_left) c.keep_known.ensures,
      );
    }
