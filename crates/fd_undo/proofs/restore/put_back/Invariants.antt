use Rattle.std.proofs.Common.{◌≡◌, ◌≤◌}
use Rattle.fd_undo.specs.Frame.{kept_rows, restored, FitDepths}
use Rattle.fd_undo.specs.Rows.{pixels_of_row, span_pixels}
use Rattle.fd_undo.proofs.restore.put_back.Given as goal

-- the rows that are left give what all of them give
abbrev pub invariant-loop-row : goal.invariant-loop-row
invariant-loop-row l = record {
  within : l.row ≤ l.span.rows;
  fit : FitDepths l.tile.deep (kept_rows l.span.x l.span.y l.row (pixels_of_row l.span l.colours l.depths));
  rest : restored (kept_rows l.span.x l.span.y l.row (pixels_of_row l.span l.colours l.depths)) l.tile
      ≡ restored (span_pixels l.span l.colours l.depths) l.fn.tile;
}

abbrev pub decreases-loop-row : goal.decreases-loop-row
decreases-loop-row l = l.row
