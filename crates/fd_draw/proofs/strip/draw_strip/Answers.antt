use Rattle.fd_draw.proofs.Strips.{Paints-all_drawn, Paints-changed}
use Rattle.fd_draw.proofs.strip.draw_strip.Goals as goal

pub returns : goal.returns
returns c = record {
  lent = record { tile = c.keep_rows.ensures.lent.tile; undo = c.keep_rows.ensures.lent.undo };
  painted = Paints-all_drawn c.args.primitive.now c.requires.drawn (Paints-changed c.keep_rows.ensures.painted c.blend_strip.ensures);
  spans = c.keep_rows.ensures.spans;
  pixels = c.keep_rows.ensures.pixels;
}
