-- Working. What is kept of a draw's triangles to find those of a window.
use Rattle.std.specs.Prelude.{List, IfSome}
use Rattle.fd_events.specs.Bounds.{IsRound, AreRoundGroups, AreTriangleBoxes}
use Rattle.fd_events.specs.Cells.{ListTriangles}
use Rattle.fd_events.specs.Draw.{Triangle}
use Rattle.fd_events.specs.declared.finder.Finder.{Finder}

-- its boxes are those of the triangles and of their groups, and its cells list the triangles
pub record Finds (finder : Finder) (ts : List Triangle) : Type 0 where
  pub bounds : IsRound finder.bounds ts
  pub groups : AreRoundGroups finder.groups.items ts
  pub boxes : AreTriangleBoxes finder.boxes.items ts
  pub cells : IfSome finder.cells (λ cells. ListTriangles cells ts)
