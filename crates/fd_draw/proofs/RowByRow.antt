-- A box of a tile, row by row: what is painted so far, and the room that is left.
use Rattle.std.proofs.Common.{◌≡◌, ℕ, ◌+◌, ◌-◌, ◌<◌, ◌≤◌, Bool, true, false, cond, List, Some, sym, ap, ◌∙◌, subst, arith}
use Rattle.fd_cover.specs.declared.bounds.Bounds.{Bounds}
use Rattle.fd_tile.specs.declared.place.Place.{Place}
use Rattle.fd_tile.specs.Place.{HasRow}
use Rattle.fd_tile.specs.Tile.{Pixel}
use Rattle.fd_undo.specs.Undo.{Undo}
use Rattle.fd_draw.specs.declared.canvas.Canvas.{Canvas}
use Rattle.fd_draw.specs.Area.{LiesIn, IsWrittenIn}
use Rattle.fd_draw.specs.Demand.{total, written_in_row, row_spans, pixels_in, region_spans}
use Rattle.fd_draw.specs.Span.{IsRowSpan}
use Rattle.fd_draw.specs.declared.run.Run.{Run}
use Rattle.fd_draw.specs.Run.{ends_of, run_spans}
use Rattle.fd_draw.specs.Writing.{HasRoom, IsLentAs, WritesRegion, WritesRun, in_row, place_on}
use Rattle.fd_draw.proofs.Canvases.{lent_on, lent_same}
use Rattle.fd_draw.proofs.Counts.{total_more, pixels_in-rows, spans_in-rows, pixels_in-row, spans_in-row, written_in_row-span}
use Rattle.fd_draw.proofs.Painting.{above, PaintsIn, Paints-first, Paints-row}
use Rattle.fd_draw.proofs.PixelTests.{row_count, Paints-row_done}

-- the spans of a row, where each pixel may be one of its own
abbrev pub row_spans_of : Bool → (ℕ → ℕ → Bool) → Place → ℕ → ℕ
row_spans_of tested written p y = cond tested (written_in_row written p y) (row_spans written p y)

pub region_spans-row : (tested : Bool) (written : ℕ → ℕ → Bool) (p : Place) (y : ℕ) → HasRow p y
    → region_spans tested (in_row written y) p ≡ row_spans_of tested written p y
region_spans-row true written p y crossed = pixels_in-row written p y crossed
region_spans-row false written p y crossed = spans_in-row written p y crossed

-- the rows above this one are done, and the room for the others is left
pub record AreRowsDone (tested : Bool) (written : ℕ → ℕ → Bool) (paint : ℕ → ℕ → Pixel → Pixel) (keep : ℕ → ℕ → Pixel → List Pixel) (bottom row : ℕ)
    (c c' : Canvas) : Type 0 where
  pub lent : IsLentAs c c'
  pub painted : PaintsIn (above written row) paint keep c.tile.now c.undo.now c'.tile.now c'.undo.now
  pub spans : c.undo.now.spans_left + total (row_spans_of tested written (place_on c)) row (bottom - row)
      ≤ c'.undo.now.spans_left + region_spans tested written (place_on c)
  pub pixels : c.undo.now.pixels_left + total (written_in_row written (place_on c)) row (bottom - row)
      ≤ c'.undo.now.pixels_left + pixels_in written (place_on c)

region_spans-rows : (tested : Bool) (written covered : ℕ → ℕ → Bool) {p : Place} {box : Bounds} → LiesIn box p → IsWrittenIn written covered p box
    → region_spans tested written p ≡ total (row_spans_of tested written p) box.top (box.bottom - box.top)
region_spans-rows true written covered inside is = pixels_in-rows written covered _ _ inside is
region_spans-rows false written covered inside is = spans_in-rows written covered _ _ inside is

module _ {tested : Bool} {written : ℕ → ℕ → Bool} (covered : ℕ → ℕ → Bool) {paint : ℕ → ℕ → Pixel → Pixel} {keep : ℕ → ℕ → Pixel → List Pixel}
    {c : Canvas} {box : Bounds} (inside : LiesIn box (place_on c)) (is : IsWrittenIn written covered (place_on c) box) where
  pub rows_first : AreRowsDone tested written paint keep box.bottom box.top c c
  rows_first = record {
    lent = lent_same c;
    painted = Paints-first written covered paint keep c.tile.now box is c.filled c.begun;
    spans = omega (arith, region_spans-rows tested written covered inside is);
    pixels = omega (arith, pixels_in-rows written covered (place_on c) box inside is);
  }

  module _ {row : ℕ} (from : box.top ≤ row) (to : row < box.bottom) {c' : Canvas}
      (done : AreRowsDone tested written paint keep box.bottom row c c') where
    pub row_crossed : HasRow (place_on c) row
    row_crossed = record { from_top = omega (arith, inside.from_top); to_bottom = omega (arith, inside.to_bottom) }

    more_spans : region_spans tested (in_row written row) (place_on c) + total (row_spans_of tested written (place_on c)) (row + 1) (box.bottom - (row + 1))
        ≡ total (row_spans_of tested written (place_on c)) row (box.bottom - row)
    more_spans =
        let first = total_more (row_spans_of tested written (place_on c)) row box.bottom to in
        omega (arith, region_spans-row tested written (place_on c) row row_crossed, first)

    more_pixels : pixels_in (in_row written row) (place_on c) + total (written_in_row written (place_on c)) (row + 1) (box.bottom - (row + 1))
        ≡ total (written_in_row written (place_on c)) row (box.bottom - row)
    more_pixels = omega (arith, pixels_in-row written (place_on c) row row_crossed, total_more (written_in_row written (place_on c)) row box.bottom to)

    pub row_room : HasRoom (region_spans tested written (place_on c)) (pixels_in written (place_on c)) c.undo.now
        → HasRoom (region_spans tested (in_row written row) (place_on c')) (pixels_in (in_row written row) (place_on c')) c'.undo.now
    row_room room =
        subst (λ (q : Place). HasRoom (region_spans tested (in_row written row) q) (pixels_in (in_row written row) q) c'.undo.now)
        (sym done.painted.placed)
        (record { spans = omega (arith, more_spans, done.spans, room.spans); pixels = omega (arith, more_pixels, done.pixels, room.pixels) })

    pub rows_next : {c'' : Canvas} → WritesRegion (region_spans tested (in_row written row) (place_on c')) (pixels_in (in_row written row) (place_on c'))
        (in_row written row) paint keep c' c''
        → AreRowsDone tested written paint keep box.bottom (row + 1) c c''
    rows_next writes = record {
      lent = lent_on done.lent writes.lent;
      painted = Paints-row written paint keep row done.painted writes.painted;
      spans = omega (arith, more_spans, ap (λ (q : Place). region_spans tested (in_row written row) q) done.painted.placed, done.spans, writes.spans);
      pixels = omega (arith, more_pixels, ap (λ (q : Place). pixels_in (in_row written row) q) done.painted.placed, done.pixels, writes.pixels);
    }

  pub rows_last : {row : ℕ} {c' : Canvas} → box.bottom ≤ row → AreRowsDone tested written paint keep box.bottom row c c'
      → WritesRegion (region_spans tested written (place_on c)) (pixels_in written (place_on c)) written paint keep c c'
  rows_last last done = grind arith

-- a row in which one span is written
module _ (tested : Bool) (written : ℕ → ℕ → Bool) {p : Place} {y : ℕ} (run : Run) (crossed : HasRow p y)
    (span : IsRowSpan (λ x. written x y) p.left (p.left + p.width) (Some (ends_of run))) where
  span_spans : (b : Bool) → region_spans b (in_row written y) p ≡ run_spans b run
  span_spans true = row_count written run crossed span
  span_spans false = spans_in-row written p y crossed ∙ omega (arith, written_in_row-span written p y run.left run.right span, span.bounds.1)

  pub span_room : {u : Undo} → HasRoom (region_spans tested (in_row written y) p) (pixels_in (in_row written y) p) u
      → HasRoom (run_spans tested run) (run.right - run.left) u
  span_room room = grind (arith, span_spans tested, row_count written run crossed span, room)

  pub span_done : {paint : ℕ → ℕ → Pixel → Pixel} {keep : ℕ → ℕ → Pixel → List Pixel} {c c' : Canvas}
      → run.y ≡ y → (place_on c) ≡ p → WritesRun (run_spans tested run) run paint keep c c'
      → WritesRegion (region_spans tested (in_row written y) p) (pixels_in (in_row written y) p) (in_row written y) paint keep c c'
  span_done same placed writes = record {
    lent = writes.lent;
    painted = Paints-row_done written run crossed span _ _ same placed writes.painted;
    spans = omega (arith, span_spans tested, writes.spans);
    pixels = omega (arith, row_count written run crossed span, writes.pixels);
  }
