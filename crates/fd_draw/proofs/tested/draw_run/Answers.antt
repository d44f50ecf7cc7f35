use Rattle.std.proofs.Common.{◌≡◌, Bool, true, false, refl}
use Rattle.std.specs.Prelude.{◌&&◌}
use Rattle.fd_draw.proofs.PixelTests.{Paints-shallow}
use Rattle.fd_draw.proofs.tested.draw_run.Goals as goal
use Rattle.fd_draw.proofs.tested.draw_run.Goals.{else-primitive-via-then-primitive+else-primitive-2, else-primitive-via-else-primitive}

off_with : (enable write : Bool) → write ≡ false → (enable && write) ≡ false
off_with true write off = off
off_with false write off = refl

pub returns-else-primitive : goal.returns-else-primitive
returns-else-primitive c =
    let depth = c.args.primitive.now.state.depth in
    let off : (depth.enable && depth.write) ≡ false = elim c.else-primitive.branch [
      | else-primitive-via-then-primitive+else-primitive-2 w ↦ off_with depth.enable depth.write w.if-primitive-2.false
      | else-primitive-via-else-primitive w ↦ rw (w.if-primitive.false) refl
    ] in
    record {
      lent = c.write_span.ensures.lent;
      painted = Paints-shallow c.args.primitive.now c.args.run c.requires.drawn off c.write_span.ensures.painted;
      spans = c.write_span.ensures.spans;
      pixels = c.write_span.ensures.pixels;
    }
