use Rattle.std.proofs.Common.{◌≡◌, length}
use Rattle.fd_undo.specs.Frame.{restored, FitDepths}
use Rattle.fd_undo.specs.SpanSlices.{AreSpanSlices, kept_in_slices}
use Rattle.fd_undo.proofs.Restored.{Inside}
use Rattle.fd_undo.proofs.restore.put_spans.Given as goal

-- what is left to put back gives what all of it gives
abbrev pub invariant-loop-left : goal.invariant-loop-left
invariant-loop-left l = record {
  whole : AreSpanSlices l.left;
  inside : Inside l.fn.tile.place (kept_in_slices l.left);
  fit : FitDepths l.tile.deep (kept_in_slices l.left);
  rest : restored (kept_in_slices l.left) l.tile ≡ restored (kept_in_slices l.fn.slices) l.fn.tile;
}

abbrev pub decreases-loop-left : goal.decreases-loop-left
decreases-loop-left l = length l.left.spans.now
