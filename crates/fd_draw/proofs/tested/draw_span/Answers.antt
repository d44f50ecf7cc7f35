use Rattle.std.proofs.Common.{◌<◌, ◌≤◌, Bool, true, false, arith}
use Rattle.fd_draw.specs.declared.run.Run.{Run}
use Rattle.fd_draw.specs.Primitive.{is_tested_by}
use Rattle.fd_draw.specs.Run.{run_spans}
use Rattle.fd_draw.proofs.PixelTests.{draws_all, Paints-untested}
use Rattle.fd_draw.proofs.tested.draw_span.Goals as goal

-- there is room for a span
at_least_one : (tested : Bool) (run : Run) → run.left < run.right → 1 ≤ run_spans tested run
at_least_one true run some = omega (arith, some)
at_least_one false run some = omega arith

pub returns-then-not-primitive : goal.returns-then-not-primitive
returns-then-not-primitive c = record {
  lent = c.write_span.ensures.lent;
  painted = Paints-untested c.args.primitive.now c.args.run
      (draws_all c.args.primitive.now c.args.run c.requires.ready c.if-not-primitive.true c.requires.reached) c.requires.reached
      c.write_span.ensures.painted;
  spans = omega (arith, at_least_one (is_tested_by c.args.primitive.now) c.args.run c.requires.run.some, c.write_span.ensures.spans);
  pixels = c.write_span.ensures.pixels;
}
