use Rattle.std.proofs.Common.{◌≤◌, ◌+◌, ◌-◌, length}
use Rattle.fd_draw.specs.Writing.{IsLentAs}
use Rattle.fd_draw.proofs.PixelTests.{IsFrontDrawn}
use Rattle.fd_draw.proofs.tested.draw_runs.Given as goal

-- so many pixels are done, and no more than one span and one pixel each were used
abbrev pub invariant-loop-done : goal.invariant-loop-done
invariant-loop-done l = record {
  lent : IsLentAs l.initial.canvas l.canvas;
  painted : IsFrontDrawn l.primitive l.run l.done l.initial.canvas.tile.now l.initial.canvas.undo.now l.canvas.tile.now l.canvas.undo.now;
  within : l.done ≤ length l.tested.depths.now;
  spans : l.initial.canvas.undo.now.spans_left ≤ l.canvas.undo.now.spans_left + l.done;
  pixels : l.initial.canvas.undo.now.pixels_left ≤ l.canvas.undo.now.pixels_left + l.done;
}

abbrev pub decreases-loop-done : goal.decreases-loop-done
decreases-loop-done l = length l.tested.depths.now - l.done
