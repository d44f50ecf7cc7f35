use Rattle.std.proofs.Common.{◌≡◌, ◌+◌, length}
use Rattle.fd_events.specs.Cells.{cell_count}
use Rattle.fd_events.specs.Draw.{triangles_of}
use Rattle.fd_events.specs.Index.{ListsTriangles}
use Rattle.fd_events.specs.Numbers.{numbers_of, listed_at, Grow}
use Rattle.fd_events.proofs.index.add_draw.Given as goal

-- the triangles so far are listed
abbrev pub invariant-loop-triangle : goal.invariant-loop-triangle
invariant-loop-triangle l = record {
  all : length (numbers_of l.lists.items) ≡ cell_count l.grid + 1;
  grown : Grow l.number (numbers_of l.initial.lists.items) (numbers_of l.lists.items);
  listed : ListsTriangles l.grid (listed_at (numbers_of l.lists.items)) l.number (triangles_of l.draw) l.triangle;
}
