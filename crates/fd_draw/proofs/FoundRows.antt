-- The rows of a triangle in a box, found one after the other.
use Rattle.std.proofs.Common.{◌≡◌, ℕ, ◌+◌, ◌-◌, ◌<◌, ◌≤◌, List, length, set, arith, Option}
use Rattle.std.proofs.lemmas.List.{get_or-set_same, get_or-set_other}
use Rattle.fd_cover.specs.declared.bounds.Bounds.{Bounds}
use Rattle.fd_cover.specs.declared.triangle.Tri.{Tri}
use Rattle.fd_cover.specs.Covers.{covers}
use Rattle.fd_draw.specs.declared.found.RowSpan.{RowSpan}
use Rattle.fd_draw.specs.Found.{AreRowSpans, span_from}
use Rattle.fd_draw.specs.Span.{IsRowSpan}

-- one row more is found
pub rows_more : (t : Tri) (box : Bounds) (rows : List RowSpan) (y : ℕ) (row : RowSpan) (span : Option (ℕ × ℕ)) → box.top ≤ y → y - box.top < length rows
    → AreRowSpans t box rows y → span_from box.left row ≡ span → IsRowSpan (λ x. covers t x y) box.left box.right span
    → AreRowSpans t box (set rows (y - box.top) row) (y + 1)
rows_more t box rows y row span from fits above is given z low high = grind (arith, get_or-set_other, get_or-set_same)
