use Rattle.std.proofs.Common.{ℕ, ◌<◌, IsTrue}
use Rattle.std.specs.List.{Contains}
use Rattle.fd_cover.specs.Bounds.{is_within}
use Rattle.fd_cover.specs.Covers.{covers}
use Rattle.fd_events.specs.Numbers.{numbers_of, listed_at, Grow}
use Rattle.fd_events.specs.Cells.{cell_at, cell_over}
use Rattle.fd_events.proofs.cells.CellGrid.add.Given as goal

-- the rows of cells so far list the number where the triangle covers a pixel
abbrev pub invariant-loop-row : goal.invariant-loop-row
invariant-loop-row l = record {
  grown : Grow l.number (numbers_of l.initial.lists.items) (numbers_of l.lists.items);
  added : (x y : ℕ) → IsTrue (covers l.triangle x y) → IsTrue (is_within l.part (cell_over l.self x) (cell_over l.self y)) → cell_over l.self y < l.row
      → Contains (listed_at (numbers_of l.lists.items) (cell_at l.self x y)) l.number;
}
