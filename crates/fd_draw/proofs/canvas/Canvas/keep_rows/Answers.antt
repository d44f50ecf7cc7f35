use Rattle.std.proofs.Common.{◌-◌, ◌∙◌, refl, sym, ap, arith}
use Rattle.fd_undo.proofs.FrameLemmas.{length-kept_place}
use Rattle.fd_draw.proofs.Strips.{known_rows, Paints-strip}
use Rattle.fd_draw.proofs.canvas.Canvas.keep_rows.Goals as goal

pub keep_place-requires-clause-known : goal.keep_place-requires-clause-known
keep_place-requires-clause-known c =
    let depths = c.depth_rows-depths in
    known_rows c.requires.rows c.args.self.now.filled depths.result.now c.flat_depth.result depths.ensures.long depths.ensures.rows c.flat_depth.ensures.flat

pub returns : goal.returns
returns c =
    let colours = c.rows-colours.ensures in
    let depths = c.depth_rows-depths.ensures in
    let equal = depths.long ∙ sym colours.long in
    let kept = rw c.place.ensures.value at c.keep_place.ensures in
    let strip = record c.args.self.now.tile.now.place { top = c.args.top; height = c.args.bottom - c.args.top } in
    let long = length-kept_place strip c.rows-colours.result.now c.depth_rows-depths.result.now colours.long equal in
    record {
      lent = record { tile = refl; undo = refl };
      painted = Paints-strip c.requires.rows c.args.self.now.filled c.rows-colours.result.now c.depth_rows-depths.result.now colours.long equal
          colours.rows depths.rows c.args.self.now.begun kept;
      spans = omega (arith, c.requires.room.spans, ap (λ u. u.spans_left) kept);
      pixels = omega (arith, c.requires.room.pixels, long, colours.long, ap (λ u. u.pixels_left) kept);
    }
