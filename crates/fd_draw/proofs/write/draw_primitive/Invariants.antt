use Rattle.std.proofs.Common.{◌≤◌, ◌-◌}
use Rattle.fd_draw.specs.Primitive.{is_tested_by, kept_of, painted_by, reached_by}
use Rattle.fd_draw.proofs.RowByRow.{AreRowsDone}
use Rattle.fd_draw.proofs.write.draw_primitive.Given as goal

-- the rows above row y are done
abbrev pub invariant-loop-y : goal.invariant-loop-y
invariant-loop-y l = record {
  from_top : l.found.area.top ≤ l.y;
  to_bottom : l.y ≤ l.found.area.bottom;
  done : AreRowsDone (is_tested_by l.primitive) (reached_by l.primitive) (painted_by l.primitive) (kept_of l.primitive) l.found.area.bottom l.y l.fn.canvas
      l.canvas;
}

abbrev pub decreases-loop-y : goal.decreases-loop-y
decreases-loop-y l = l.found.area.bottom - l.y
