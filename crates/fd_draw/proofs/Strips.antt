-- Whole rows of a tile: they are kept as one span, and change one after the other.
use Rattle.std.proofs.Common.{◌≡◌, ℕ, ◌+◌, ◌-◌, ◌*◌, ◌<◌, ◌≤◌, ◌⊎◌, inl, inr, Bool, true, false, cond, List, [], ◌++◌, length}
use Rattle.std.proofs.Common.{replicate, refl, sym, ap, ◌∙◌, subst, arith}
use Rattle.std.specs.Prelude.{Option, Some, None, IfSome, ◌&&◌}
use Rattle.std.proofs.Math.Nat.{mul_comm}
use Rattle.std.proofs.lemmas.Bool.{cases_lt, cases_eq}
use Rattle.std.proofs.lemmas.Bool.Decides.{nat_tests}
use Rattle.std.proofs.lemmas.List.{length_push}
use Rattle.std.proofs.lemmas.List.Elements.{All-append}
use Rattle.std.proofs.lemmas.Slice.Zip.{get_or-zip}
use Rattle.std.specs.List.{zip}
use Rattle.fd_blend.specs.declared.channel.Colour.{Colour}
use Rattle.fd_cover.specs.Covers.{covers}
use Rattle.fd_events.specs.Image.{is_drawn}
use Rattle.fd_tile.specs.declared.place.Place.{Place}
use Rattle.fd_tile.specs.Place.{Holds}
use Rattle.fd_tile.specs.Tile.{Pixel, TileImage, IsTileImage, IsFlat, row_cut, row_of, depth_row_of, depth_in, pixel_of}
use Rattle.fd_tile.proofs.Cut.{rows_alike}
use Rattle.fd_tile.proofs.Pixels.{row_in-flat}
use Rattle.fd_undo.specs.Frame.{KeptPixel, kept_at, kept_place, top, older}
use Rattle.fd_undo.specs.Undo.{Undo, with_kept}
use Rattle.fd_undo.proofs.KeptAt.{kept_at-append, kept_at-rows_outside, kept_at-rows_inside, kept_at-inside}
use Rattle.fd_undo.proofs.Restored.{kept_rows-inside}
use Rattle.fd_undo.proofs.FrameLemmas.{top-push, older-push, length-zip_equal, length-row_cut}
use Rattle.fd_draw.specs.declared.canvas.Canvas.{Canvas}
use Rattle.fd_draw.specs.declared.primitive.Primitive.{Primitive}
use Rattle.fd_draw.specs.Demand.{total, written_in_row, pixels_in, spans_in, region_spans}
use Rattle.fd_draw.specs.declared.found.Found.{Found}
use Rattle.fd_draw.specs.Plan.{IsFoundOn}
use Rattle.fd_draw.specs.Primitive.{DrawsAll, DrawsRows, IsReady, blended_by, kept_of, painted_by, reached_by, triangle_of}
use Rattle.fd_draw.specs.declared.run.Run.{Run}
use Rattle.fd_draw.specs.Run.{across, ends_of}
use Rattle.fd_draw.specs.Span.{IsRowSpan}
use Rattle.fd_draw.specs.Written.{as_it_is}
use Rattle.fd_draw.specs.Writing.{ChangesRegion, after_where, HasRoom, HasRows, WritesRegion, keep_each, kept_where, place_on, rows_between}
use Rattle.fd_draw.proofs.Areas.{drawn_reached}
use Rattle.fd_draw.proofs.Canvases.{lent_on}
use Rattle.fd_draw.proofs.Counts.{pixels_in-all, spans_in-all, total_constant, total_more, total_same, total_split, written_in_row-span}
use Rattle.fd_draw.proofs.Painting.{above, PaintsIn, Paints-both, Paints-same}
use Rattle.fd_draw.proofs.PixelTests.{cond_at, draws_all}
use Rattle.fd_draw.proofs.RowByRow.{AreRowsDone, row_spans_of}

-- ---- rows that are kept

module _ {t : TileImage} {first last : ℕ} (is : HasRows first last t.place) (filled : IsTileImage t) where
  abbrev height : ℕ
  height = last - first

  -- where all pixels are known to be equally deep, so are these
  pub known_rows : (ds : List ℕ) (known : Option ℕ) → length ds ≡ height * t.place.width
      → ((n : ℕ) → n < height → row_cut t.place.width n ds ≡ depth_row_of t (first + n))
      → IfSome known (λ depth. IsFlat t.place t.depths depth) → IfSome known (λ depth. ds ≡ replicate (length ds) depth)
  known_rows ds None long rows flat = tt
  known_rows ds (Some depth) long rows flat = rows_alike t.place.width height ds depth long (λ n below. rows n below ∙ level n below)
    where
      level : (n : ℕ) → n < height → depth_row_of t (first + n) ≡ replicate t.place.width depth
      level n below = row_in-flat t.place t.depths (first + n) filled.depths
          (record { from_top = omega (arith, is.from_top); to_bottom = omega (arith, below, is.to_bottom) }) depth flat

  module _ (cs : List Colour) (ds : List ℕ) (long : length cs ≡ height * t.place.width) (equal : length ds ≡ length cs)
      (colours : (n : ℕ) → n < height → row_cut t.place.width n cs ≡ row_of t (first + n))
      (depths : (n : ℕ) → n < height → row_cut t.place.width n ds ≡ depth_row_of t (first + n)) where
    abbrev strip : Place
    strip = record { left = t.place.left; top = first; width = t.place.width; height = height }

    abbrev pixels : ℕ → List Pixel
    pixels n = zip (row_cut t.place.width n cs) (row_cut t.place.width n ds)

    wide : (n : ℕ) → n < height → length (pixels n) ≡ t.place.width
    wide n below =
        let deep = length-row_cut strip ds (equal ∙ long) n below in
        let broad = length-row_cut strip cs long n below in
        length-zip_equal (row_cut t.place.width n cs) (row_cut t.place.width n ds) (deep ∙ sym broad) ∙ broad

    -- what is kept of a pixel
    each : (x y : ℕ) → Holds t.place x y → (y < first) ⊎ (first ≤ y) → (y < last) ⊎ (last ≤ y)
        → kept_at (kept_place strip cs ds) x y ≡ kept_where (rows_between first last) keep_each x y (pixel_of t x y)
    each x y held (inl low) high = grind (arith, nat_tests, kept_at-rows_outside)
    each x y held (inr low) (inr high) = grind (arith, nat_tests, kept_at-rows_outside)
    each x y held (inr low) (inl high) =
        let row : ℕ = y - first in
        let here : first + (y - first) ≡ y = omega (arith, low) in
        let within : y - first < height = omega (arith, low, high) in
        grind (
          arith,
          nat_tests,
          kept_at-rows_inside,
          kept_at-inside,
          get_or-zip,
          wide (y - first) within,
          length-row_cut strip cs long (y - first) within,
          length-row_cut strip ds (equal ∙ long) (y - first) within,
          colours (y - first) within,
          depths (y - first) within,
          here,
          held,
        )

    pub Paints-strip : {u u' : Undo} → u.frame_left ≡ false → u' ≡ with_kept u (kept_place strip cs ds)
        → PaintsIn (rows_between first last) as_it_is keep_each t u t u'
    Paints-strip {u} begun kept = rw kept (record {
      placed = refl;
      made = refl;
      deep = refl;
      filled = filled;
      below = older-push (older u.frames) (top u.frames ++ kept_place strip cs ds);
      begun = begun;
      opening = refl;
      some = λ _. omega (arith, length_push (older u.frames) (top u.frames ++ kept_place strip cs ds));
      pixels = λ x y held. grind arith;
      kept = λ x y held. rw (top-push (older u.frames) (top u.frames ++ kept_place strip cs ds))
          (kept_at-append (top u.frames) (kept_place strip cs ds) x y
          ∙ ap (λ ks. kept_at (top u.frames) x y ++ ks) (each x y held (cases_lt y first) (cases_lt y last)));
      inside = λ before. rw (top-push (older u.frames) (top u.frames ++ kept_place strip cs ds))
          (All-append (λ (k : KeptPixel). Holds t.place k.x k.y) (top u.frames) (kept_place strip cs ds) before
          (kept_rows-inside t.place t.place.left first height t.place.width pixels (omega arith) (omega arith) is.from_top
          (omega (arith, is.to_bottom, is.some)) wide));
    })

-- ---- a triangle that is drawn at all of them

-- rows that were kept, and then changed
pub Paints-changed : {change : ℕ → ℕ → Pixel → Pixel} {region : ℕ → ℕ → Bool} {t t' t'' : TileImage} {u u' : Undo}
    → PaintsIn region as_it_is keep_each t u t' u' → ChangesRegion change region t' t'' → PaintsIn region change keep_each t u t'' u'
Paints-changed {change} {region} {t} {t'} kept changed = record {
  placed = changed.placed ∙ kept.placed;
  made = changed.made ∙ kept.made;
  deep = changed.deep ∙ kept.deep;
  filled = changed.filled;
  below = kept.below;
  begun = kept.begun;
  opening = kept.opening;
  some = kept.some;
  pixels = λ x y held.
      let there : Holds t'.place x y = subst (λ p. Holds p x y) (sym kept.placed) held in
      let stays : pixel_of t' x y ≡ pixel_of t x y = kept.pixels x y held ∙ either (region x y) (pixel_of t x y) in
      changed.pixels x y there ∙ ap (λ q. after_where region change x y q) stays;
  kept = kept.kept;
  inside = kept.inside;
}
  where
    either : (b : Bool) (q : Pixel) → cond b q q ≡ q
    either true q = refl
    either false q = refl

pub Paints-all_drawn : (p : Primitive) {first last : ℕ} {t t' : TileImage} {u u' : Undo} → DrawsRows p t.place first last
    → PaintsIn (rows_between first last) (blended_by p) keep_each t u t' u'
    → PaintsIn (rows_between first last) (painted_by p) (kept_of p) t u t' u'
Paints-all_drawn p {first} {last} {t} is = Paints-same
    (λ x y held. cond_at (rows_between first last x y) (blended_by p x y (pixel_of t x y)) (painted_by p x y (pixel_of t x y)) (pixel_of t x y)
    (λ here. rw (drawn x y held here, (at_row x y here).untested) refl))
    (λ x y held. cond_at (rows_between first last x y) (keep_each x y (pixel_of t x y)) (kept_of p x y (pixel_of t x y)) []
    (λ here. rw (drawn x y held here) refl))
  where
    rows : (x y : ℕ) → rows_between first last x y ≡ true → (first ≤ y) × (y < last)
    rows x y here = grind (arith, nat_tests)

    at_row : (x y : ℕ) → rows_between first last x y ≡ true → DrawsAll p (across t.place y)
    at_row x y here = is.all y (rows x y here).0 (rows x y here).1

    drawn : (x y : ℕ) → Holds t.place x y → rows_between first last x y ≡ true → is_drawn (triangle_of p) p.state x y (depth_in t x y) ≡ true
    drawn x y held here =
        let within = rows x y here in
        let all = at_row x y here in
        drawn_reached (triangle_of p) p.state x y (depth_in t x y)
        ∙ rw (is.reached x y held within.0 within.1, all.untested, all.filled x held.from_left held.to_right) refl

-- ---- several rows of a box that are written from side to side

module _ {tested : Bool} {written : ℕ → ℕ → Bool} {paint : ℕ → ℕ → Pixel → Pixel} {keep : ℕ → ℕ → Pixel → List Pixel}
    {c : Canvas} {bottom row end : ℕ} (some : row < end) (within : end ≤ bottom) (placed : 1 ≤ (place_on c).width)
    (all : (x y : ℕ) → Holds (place_on c) x y → row ≤ y → y < end → written x y ≡ true)
    (from_top : (place_on c).top ≤ row) (to_bottom : bottom ≤ (place_on c).top + (place_on c).height)
    {c' : Canvas} (done : AreRowsDone tested written paint keep bottom row c c') where
  full : (y : ℕ) → row ≤ y → y < end → written_in_row written (place_on c) y ≡ (place_on c).width
  full y low high =
      written_in_row-span written (place_on c) y (place_on c).left ((place_on c).left + (place_on c).width) (record {
        bounds = (omega arith, omega (arith, placed), omega arith);
        same = λ x from to.
            let here = all x y (record {
              from_left = from;
              to_right = to;
              from_top = omega (arith, from_top, low);
              to_bottom = omega (arith, high, within, to_bottom);
            }) low high in grind (arith, nat_tests, here);
      })
      ∙ omega arith

  parts : (f : ℕ → ℕ) → total f row (bottom - row) ≡ total f row (end - row) + total f end (bottom - end)
  parts f =
      ap (λ n. total f row n) {x = bottom - row} {y = end - row + (bottom - end)} (omega (arith, some, within))
      ∙ total_split f row (end - row) (bottom - end)
      ∙ ap (λ k. total f row (end - row) + total f k (bottom - end)) {x = row + (end - row)} {y = end} (omega (arith, some))

  more_pixels : (end - row) * (place_on c).width + total (written_in_row written (place_on c)) end (bottom - end)
      ≡ total (written_in_row written (place_on c)) row (bottom - row)
  more_pixels =
      let here = total_same (written_in_row written (place_on c)) (λ _. (place_on c).width) row (end - row)
      (λ y low high. full y low (omega (arith, high, some)))
      ∙ total_constant (place_on c).width row (end - row) in
      omega (arith, here, parts (written_in_row written (place_on c)))

  one_span : 1 ≤ row_spans_of tested written (place_on c) row
  one_span = by_test tested
    where
      by_test : (b : Bool) → 1 ≤ row_spans_of b written (place_on c) row
      by_test true = omega (arith, full row (omega arith) some, placed)
      by_test false = omega (arith, full row (omega arith) some, placed)

  more_spans : 1 + total (row_spans_of tested written (place_on c)) end (bottom - end) ≤ total (row_spans_of tested written (place_on c)) row (bottom - row)
  more_spans =
      let first = total_more (row_spans_of tested written (place_on c)) row end some in
      omega (arith, parts (row_spans_of tested written (place_on c)), first, one_span)

  pub strip_room : HasRoom (region_spans tested written (place_on c)) (pixels_in written (place_on c)) c.undo.now
      → HasRoom 1 ((end - row) * (place_on c').width) c'.undo.now
  strip_room room =
      subst (λ (q : Place). HasRoom 1 ((end - row) * q.width) c'.undo.now) (sym done.painted.placed) (record {
        spans = omega (arith, more_spans, done.spans, room.spans);
        pixels = omega (arith, more_pixels, done.pixels, room.pixels);
      })

  pub strip_next : {c'' : Canvas} → WritesRegion 1 ((end - row) * (place_on c').width) (rows_between row end) paint keep c' c''
      → AreRowsDone tested written paint keep bottom end c c''
  strip_next writes = record {
    lent = lent_on done.lent writes.lent;
    painted = Paints-both paint keep (above written row) (λ x y. rows_between row end x y && written x y) (above written end)
        (λ x y. grind (arith, nat_tests)) (λ x y. grind (arith, nat_tests, some)) done.painted
        (Paints-same (λ x y held. ap (λ b. cond b (paint x y (pixel_of c'.tile.now x y)) (pixel_of c'.tile.now x y)) (same x y held))
        (λ x y held. ap (λ b. cond b (keep x y (pixel_of c'.tile.now x y)) []) (same x y held)) writes.painted);
    spans = omega (arith, more_spans, done.spans, writes.spans);
    pixels = omega (arith, more_pixels, ap (λ (q : Place). (end - row) * q.width) done.painted.placed, done.pixels, writes.pixels);
  }
    where
      same : (x y : ℕ) → Holds (place_on c') x y → rows_between row end x y ≡ (rows_between row end x y && written x y)
      same x y held = by_rows (rows_between row end x y) refl
        where
          by_rows : (b : Bool) → rows_between row end x y ≡ b → b ≡ (b && written x y)
          by_rows false out = refl
          by_rows true here =
              let rows : (row ≤ y) × (y < end) = grind (arith, nat_tests, here) in
              sym (all x y (subst (λ (p : Place). Holds p x y) done.painted.placed held) rows.0 rows.1)

-- ---- the next row from side to side

module _ (p : Primitive) (place : Place) {f : Found} {y row : ℕ} (run : Run) (is : IsFoundOn (triangle_of p) p.state place f)
    (from_top : f.area.top ≤ y) (low : y ≤ row) (high : row < f.area.bottom)
    (span : IsRowSpan (λ x. covers p.corners x row) f.area.left f.area.right (Some (ends_of run)))
    (left : run.left ≤ place.left) (right : place.left + place.width ≤ run.right) (ready : IsReady p) (untested : p.tested ≡ false) where
  row_covered : (x : ℕ) → Holds place x row → covers p.corners x row ≡ true
  row_covered x held = grind (arith, nat_tests, span.bounds, span.same x (omega (arith, span.bounds.0, left, held.from_left)), left, right, held)

  row_reached : (x : ℕ) → Holds place x row → reached_by p x row ≡ true
  row_reached x held = grind (arith, nat_tests, span.bounds, is.reached x row held, row_covered x held, left, right, held, from_top, low, high)

  all_row : DrawsAll p (across place row)
  all_row = draws_all p (across place row) ready untested (λ x from to. row_reached x (record {
    from_left = from;
    to_right = to;
    from_top = omega (arith, is.inside.from_top, from_top, low);
    to_bottom = omega (arith, is.inside.to_bottom, high);
  }))

  pub drawn_next : DrawsRows p place y row → DrawsRows p place y (row + 1)
  drawn_next before = record {
    covered = λ x z held from to. by_row (λ k. covers p.corners x k ≡ true) z (λ same. row_covered x (subst (λ k. Holds place x k) same held))
        (λ less. before.covered x z held from less) to;
    reached = λ x z held from to. by_row (λ k. reached_by p x k ≡ true) z (λ same. row_reached x (subst (λ k. Holds place x k) same held))
        (λ less. before.reached x z held from less) to;
    all = λ z from to. by_row (λ k. DrawsAll p (across place k)) z (λ same. all_row) (λ less. before.all z from less) to;
  }
    where
      by_row : (P : ℕ → Type 0) (z : ℕ) → (z ≡ row → P row) → (z < row → P z) → z < row + 1 → P z
      by_row P z here above below = at (cases_eq z row)
        where
          at : (z ≡ row) ⊎ (z ≡ row → ⊥) → P z
          at (inl same) = subst P (sym same) (here same)
          at (inr other) = above (omega (arith, below, other))

-- ---- all rows

module _ (t : TileImage) (filled : IsTileImage t) where
  all_rows : t.place.top + t.place.height - t.place.top ≡ t.place.height
  all_rows = omega arith

  pub tile_room : {u : Undo} → HasRoom (spans_in (λ _ _. true) t.place) (pixels_in (λ _ _. true) t.place) u
      → HasRoom 1 ((t.place.top + t.place.height - t.place.top) * t.place.width) u
  tile_room room =
      let placed = filled.colours.placed in
      record {
        spans = omega (arith, spans_in-all t.place placed.wide, placed.high, room.spans);
        pixels = omega (arith, pixels_in-all t.place, mul_comm t.place.width t.place.height, ap (λ k. k * t.place.width) all_rows, room.pixels);
      }

  pub Paints-tile : {t' : TileImage} {u u' : Undo} → PaintsIn (rows_between t.place.top (t.place.top + t.place.height)) as_it_is keep_each t u t' u'
      → PaintsIn (λ _ _. true) as_it_is keep_each t u t' u'
  Paints-tile = Paints-same (λ x y held. grind (arith, nat_tests, held)) (λ x y held. grind (arith, nat_tests, held))
