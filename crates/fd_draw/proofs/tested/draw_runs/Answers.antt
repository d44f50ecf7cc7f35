use Rattle.std.proofs.Common.{◌+◌, ◌-◌, ◌/◌, ◌^◌, ◌≤◌, ◌∙◌, ap, arith}
use Rattle.fd_draw.specs.declared.canvas.Canvas.{Canvas}
use Rattle.std.proofs.lemmas.Bool.{eq-eqb, ne_eqb}
use Rattle.fd_draw.proofs.Canvases.{lent_on}
use Rattle.fd_draw.proofs.Masks.{lowest_set}
use Rattle.fd_draw.proofs.PixelTests.{behind, drawn_alike, Paints-failed, Paints-next}
use Rattle.fd_draw.proofs.tested.draw_runs.Goals as goal
use Rattle.fd_draw.proofs.tested.draw_runs.Goals.{then-passed-eq1, else-passed-eq1}

pub draw_run-requires-clause-drawn : goal.draw_run-requires-clause-drawn
draw_run-requires-clause-drawn c = λ column low high.
    let tested = c.requires.tested in
    let inv = c.loop-done.invariant in
    let passed = c.args.tested.now.passed in
    let most : c.loop-done.done + c.alike-count.result ≤ c.args.run.right - c.args.run.left =
    omega (arith, c.alike-count.ensures.most, inv.within, tested.size) in
    drawn_alike c.args.primitive.now c.args.run c.loop-done.done c.alike-count.result inv.painted passed c.requires.run most tested.passed
    c.alike-count.ensures.same column low high ∙ lowest_set (passed / 2 ^ c.loop-done.done) ∙ eq-eqb _ 1 c.if-passed-eq1.true

pub loop-done-preserved : goal.loop-done-preserved
loop-done-preserved c =
    let p = c.args.primitive.now in
    let run = c.args.run in
    let tested = c.requires.tested in
    let passed = c.args.tested.now.passed in
    let done = c.loop-done.done in
    let inv = c.loop-done.invariant in
    let count = c.alike-count in
    let most : done + count.result ≤ run.right - run.left = omega (arith, count.ensures.most, inv.within, tested.size) in
    elim c.if-passed-eq1.branch [
      | then-passed-eq1 w ↦ record {
        lent = rw w.canvas-is (lent_on inv.lent w.draw_run.ensures.lent);
        painted = rw w.canvas-is (Paints-next p run done count.result inv.painted w.draw_run.ensures.painted);
        within = omega (arith, most, tested.size);
        spans = omega (arith, ap (λ (v : Canvas). v.undo.now.spans_left) w.canvas-is, w.draw_run.ensures.spans, inv.spans, count.ensures.least);
        pixels = omega (arith, ap (λ (v : Canvas). v.undo.now.pixels_left) w.canvas-is, w.draw_run.ensures.pixels, inv.pixels);
      }
      | else-passed-eq1 w ↦ record {
        lent = rw w.canvas-is inv.lent;
        painted = rw w.canvas-is (Paints-next p run done count.result inv.painted
            (Paints-failed p (behind run done count.result) inv.painted.filled inv.painted.begun
            (λ column low high. drawn_alike p run done count.result inv.painted passed c.requires.run most tested.passed count.ensures.same column low high
            ∙ lowest_set (passed / 2 ^ done) ∙ ne_eqb _ 1 w.if-passed-eq1.false)));
        within = omega (arith, most, tested.size);
        spans = omega (arith, ap (λ (v : Canvas). v.undo.now.spans_left) w.canvas-is, inv.spans);
        pixels = omega (arith, ap (λ (v : Canvas). v.undo.now.pixels_left) w.canvas-is, inv.pixels);
      }
    ]
