use Rattle.std.proofs.Common.{◌≡◌, ◌≤◌, ◌+◌, ◌-◌, ◌*◌, length}
use Rattle.fd_cover.specs.Covers.{covers}
use Rattle.fd_draw.specs.Area.{place_of_box}
use Rattle.fd_draw.specs.Found.{AreRowSpans}
use Rattle.fd_draw.specs.Demand.{total, written_in_row, row_spans, pixels_in, spans_in}
use Rattle.fd_draw.proofs.found.Found.of.Given as goal

-- what was counted and what the rows that are left have is what all have
abbrev pub invariant-loop-y : goal.invariant-loop-y
invariant-loop-y l = record {
  size : length l.rows ≡ 32;
  rows : AreRowSpans l.fn.edges.0 l.area l.rows l.y;
  edges : l.edges ≡ (l.fn.edges.0, l.y);
  spans : l.demand.spans + total (row_spans (covers l.fn.edges.0) (place_of_box l.area)) l.y (l.area.bottom - l.y)
      ≡ spans_in (covers l.fn.edges.0) (place_of_box l.area);
  pixels : l.demand.pixels + total (written_in_row (covers l.fn.edges.0) (place_of_box l.area)) l.y (l.area.bottom - l.y)
      ≡ pixels_in (covers l.fn.edges.0) (place_of_box l.area);
  few_spans : l.demand.spans ≤ l.y - l.area.top;
  few_pixels : l.demand.pixels ≤ 32 * (l.y - l.area.top);
}
