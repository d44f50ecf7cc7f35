use Rattle.std.proofs.Common.{◌-◌, ℕ, ◌<◌, ◌≤◌}
use Rattle.fd_events.specs.Cells.{IsBeyond}
use Rattle.fd_events.proofs.cells.CellGrid.reached.Given as goal

-- the columns so far lie beyond an edge
abbrev pub invariant-loop-left : goal.invariant-loop-left
invariant-loop-left l = record {
  first : l.part.left ≤ l.left;
  last : l.left ≤ l.part.right;
  before : (column : ℕ) → l.part.left ≤ column → column < l.left → IsBeyond l.self l.triangle column l.row;
}

abbrev pub decreases-loop-left : goal.decreases-loop-left
decreases-loop-left l = l.part.right - l.left

-- so do those from the other end
abbrev pub invariant-loop-right : goal.invariant-loop-right
invariant-loop-right l = record {
  order : l.left ≤ l.right;
  last : l.right ≤ l.fn.part.right;
  after : (column : ℕ) → l.right ≤ column → column < l.fn.part.right → IsBeyond l.self l.triangle column l.row;
}

abbrev pub decreases-loop-right : goal.decreases-loop-right
decreases-loop-right l = l.right - l.left
