use Rattle.std.proofs.Common.{◌≡◌, ℕ, ◌<◌, length, Some, slice_get}
use Rattle.fd_events.specs.Draw.{Triangle, triangles_of}
use Rattle.fd_events.specs.Numbers.{numbers_of, AreOrdered}
use Rattle.fd_events.specs.Cells.{cell_count, ListCovered}
use Rattle.fd_events.proofs.cells.CellGrid.lists.Given as goal

-- the triangles so far are listed
abbrev pub invariant-loop-number : goal.invariant-loop-number
invariant-loop-number l = record {
  all : length (numbers_of l.lists.items) ≡ cell_count l.self;
  ordered : AreOrdered l.number (numbers_of l.lists.items);
  listed : (i : ℕ) (t : Triangle) → i < l.number → slice_get (triangles_of l.list) i ≡ Some t → ListCovered l.self (numbers_of l.lists.items) i t.corners;
}
