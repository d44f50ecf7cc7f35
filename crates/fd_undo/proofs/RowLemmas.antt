-- Spans, what one and what several of them keep, and spans that keep more.
use Rattle.std.proofs.lemmas.Grind.{common_steps}
use Rattle.std.proofs.Common.{Bool, true, false, Option, Some, None, replicate, ap, ◌∙◌}
use Rattle.std.proofs.Common.{◌≡◌, ℕ, ◌+◌, ◌-◌, ◌*◌, ◌<◌, ◌≤◌, List, [], ◌∷◌, ◌++◌, length, get_or, take, drop, refl, arith, add-one, append_assoc}
use Rattle.std.specs.Prelude.{if◌then◌else◌, zip, sum_by}
use Rattle.std.proofs.Math.Nat.{zero-mul, one-mul, suc-mul, mul-le-mul_right}
use Rattle.std.proofs.lemmas.List.{length-take, take-append-le, drop-append-le, get_or_append_left, take-take, drop-drop, drop_at}
use Rattle.std.proofs.lemmas.List.{take_all, take-replicate, drop-replicate}
use Rattle.std.proofs.lemmas.Nat.{row_fits}
use Rattle.std.proofs.lemmas.List.{nil_from_length, take-append-drop, drop-take, append-nil, take_at, get_or-drop, take_rest, length-drop, length-append}
use Rattle.std.proofs.lemmas.Slice.Zip.{get_or-zip}
use Rattle.fd_blend.specs.declared.channel.Colour.{Colour}
use Rattle.fd_blend.specs.Channel.{fresh}
use Rattle.fd_undo.specs.Span.{Span, IsGrown, IsRowOf, IsSpanOf}
use Rattle.fd_tile.specs.declared.place.Place.{Place}
use Rattle.fd_tile.specs.Tile.{row_cut}
use Rattle.fd_undo.specs.Frame.{kept_row, kept_place, KeptPixel}
use Rattle.fd_undo.specs.Rows.{row_colours, listed_colours, colours_in, colours_from, depths_from, depths_listed, row_depths, listed_depths}
use Rattle.fd_undo.specs.Rows.{depths_in, pixels_of_row}
use Rattle.fd_undo.specs.Rows.{span_pixels, IsHeld, colour_count, depth_count, pixel_count, rows_in, joined, Held, KeepsMore, GrowsBy, no_span}
use Rattle.fd_undo.proofs.FrameLemmas.{length-zip_equal, length-kept_rows, kept_rows-one, kept_rows-same, others-newest}
use Rattle.std.proofs.lemmas.List.Sums.{sum_by-cons, sum_by-take-drop, sum_by_push, sum_by-take-le}
use Rattle.fd_undo.specs.Block.{others}

-- ---- there is a value for each pixel
pub length-colours_in : (s : Span) (cs : List Colour) → row_colours s ≤ length cs → length (colours_in s cs) ≡ s.len
length-colours_in s cs fits = grind (arith, common_steps)

pub length-depths_in : (s : Span) (ds : List ℕ) → row_depths s ≤ length ds → length (depths_in s ds) ≡ s.len
length-depths_in s ds fits = grind (arith, common_steps)

-- ---- a row's pixels
module _ (s : Span) (colours : List Colour) (depths : List ℕ) (fits : row_colours s ≤ length colours) (deep_fits : row_depths s ≤ length depths) where
  pub row_deep : length (depths_in s depths) ≡ length (colours_in s colours)
  row_deep = grind (arith, length-colours_in, length-depths_in)

  pub zipped : length (zip (colours_in s colours) (depths_in s depths)) ≡ s.len
  zipped = grind (arith, length-zip_equal, row_deep, length-colours_in)

-- ---- the values of a row stand behind those of the rows above it
pub colours_behind : (s : Span) (row : ℕ) → row < s.rows → (if s.one_colour then 0 else row * s.len) + row_colours s ≤ listed_colours s
colours_behind s row above = grind (arith, suc-mul, mul-le-mul_right)

pub depths_behind : (s : Span) (row : ℕ) → row < s.rows → depths_listed s.same_depth (row * s.len) + row_depths s ≤ listed_depths s
depths_behind s row above = grind (arith, common_steps, suc-mul, mul-le-mul_right)

module _ (s : Span) (cs : List Colour) (ds : List ℕ) (fits : listed_colours s ≤ length cs) (deep_fits : listed_depths s ≤ length ds) where
  -- more values at the end of the lists change nothing
  pub span_pixels-more : (new : List Colour) (deep : List ℕ) → span_pixels s (cs ++ new) (ds ++ deep) ≡ span_pixels s cs ds
  span_pixels-more new deep =
      grind (arith, kept_rows-same, drop-append-le, colours_behind, get_or_append_left, depths_behind, take-append-le, length-drop)

  pub length-pixels_of_row : (row : ℕ) → row < s.rows → length (pixels_of_row s cs ds row) ≡ s.len
  length-pixels_of_row row above = grind (arith, zipped, colours_behind, depths_behind, length-drop)

  pub length-span_pixels : length (span_pixels s cs ds) ≡ s.rows * s.len
  length-span_pixels = grind (arith, length-kept_rows, length-pixels_of_row)

-- ---- what is listed of a row gives all of it
pub span_pixels-row : (s : Span) (cs : List Colour) (ds : List ℕ) → IsRowOf cs ds s
    → span_pixels s (take (listed_colours s) cs) (take (listed_depths s) ds) ≡ kept_row s.x s.y (zip cs ds)
span_pixels-row s cs ds is = grind (arith, common_steps, kept_rows-one, zero-mul, one-mul)

-- ---- what is listed of a place gives all of it
module _ (p : Place) (s : Span) (cs : List Colour) (ds : List ℕ) (is : IsSpanOf p cs ds s) where
  row_below : (n : ℕ) → n < p.height → n * p.width + p.width ≤ p.height * p.width
  row_below n below = row_fits n p.width p.height p.width below (omega arith)

  -- a row of what is one value everywhere
  cut_alike : {X : Type 0} (x : X) (n : ℕ) → n < p.height → row_cut p.width n (replicate (p.height * p.width) x) ≡ replicate p.width x
  cut_alike x n below =
      let room = row_below n below in
      ap (λ l. take p.width l) (drop-replicate (n * p.width) (p.height * p.width) x)
      ∙ take-replicate p.width (p.height * p.width - n * p.width) x (omega (arith, room))

  pub span_pixels-place : span_pixels s (take (listed_colours s) cs) (take (listed_depths s) ds) ≡ kept_place p cs ds
  span_pixels-place =
      kept_rows-same s.x s.y s.rows _ _ (λ n below. row_same n (omega (arith, below, is.rows)))
      ∙ cc (is.x, is.y, is.rows)
    where
      colours_same : (n : ℕ) → n < p.height → colours_in s (colours_from s n (take (listed_colours s) cs)) ≡ row_cut p.width n cs
      colours_same n below = by_colour s.one_colour refl
        where
          by_colour : (one : Bool) → s.one_colour ≡ one → colours_in s (colours_from s n (take (listed_colours s) cs)) ≡ row_cut p.width n cs
          by_colour true same = grind (arith, cut_alike, common_steps)
          by_colour false same = grind (arith, common_steps, take_all)

      depths_same : (n : ℕ) → n < p.height → depths_in s (depths_from s n (take (listed_depths s) ds)) ≡ row_cut p.width n ds
      depths_same n below = by_depth s.same_depth refl
        where
          by_depth : (depth : Option ℕ) → s.same_depth ≡ depth → depths_in s (depths_from s n (take (listed_depths s) ds)) ≡ row_cut p.width n ds
          by_depth (Some depth) same = grind (arith, cut_alike, common_steps)
          by_depth None same = grind (arith, common_steps, take_all)

      row_same : (n : ℕ) → n < p.height → pixels_of_row s (take (listed_colours s) cs) (take (listed_depths s) ds) n
          ≡ zip (row_cut p.width n cs) (row_cut p.width n ds)
      row_same n below = cc (colours_same n below, depths_same n below)

-- ---- one row more, whose values stand behind those of the span
module _ (s row grown : Span) (old : List Colour) (deep : List ℕ) (is : IsGrown s row grown) (values : IsRowOf old deep row) where
  abbrev new : List Colour
  new = take (if row.one_colour then 0 else row.len) old

  abbrev deeper : List ℕ
  deeper = take (listed_depths row) deep

  pub grown_listed : (listed_colours grown ≡ listed_colours s + length new) × (listed_depths grown ≡ listed_depths s + length deeper)
  grown_listed = grind (arith, common_steps, suc-mul s.rows, one-mul)

  module _ (cs : List Colour) (ds : List ℕ) (own : IsHeld (s ∷ []) cs ds) (same : row.one_colour ≡ true → get_or cs 0 fresh ≡ get_or old 0 fresh) where
    row_is : pixels_of_row s (cs ++ new) (ds ++ deeper) s.rows ≡ zip old deep
    row_is = grind (arith, common_steps, get_or_append_left, one-mul, drop_at, take-take)

    pub span_pixels-grown : span_pixels grown (cs ++ new) (ds ++ deeper) ≡ span_pixels s cs ds ++ kept_row row.x row.y (zip old deep)
    span_pixels-grown = cc (is.is, span_pixels-more s cs ds (omega arith) (omega arith) new deeper, is.y, is.x, row_is, add-one s.rows)

-- a span of rows without pixels keeps nothing
pub span_pixels-none : (s : Span) (colours : List Colour) (depths : List ℕ) → length colours ≡ listed_colours s → length depths ≡ listed_depths s → s.len ≡ 0
    → span_pixels s colours depths ≡ []
span_pixels-none s colours depths counted deep_counted none = nil_from_length _ (grind (arith, length-span_pixels))

-- ---- rows one after the other
pub joined-push : (rows : List (List KeptPixel)) (row : List KeptPixel) → joined (rows ++ row ∷ []) ≡ joined rows ++ row
joined-push [] row = append-nil row
joined-push (r ∷ rows) row = grind (arith, joined-push rows row, append_assoc)

-- ---- the values of some spans
pub colours-cons : (s : Span) (spans : List Span) → colour_count (s ∷ spans) ≡ listed_colours s + colour_count spans
colours-cons s spans = sum_by-cons listed_colours s spans

pub depths-cons : (s : Span) (spans : List Span) → depth_count (s ∷ spans) ≡ listed_depths s + depth_count spans
depths-cons s spans = sum_by-cons listed_depths s spans

pub length-rows_in : (spans : List Span) (cs : List Colour) (ds : List ℕ) → length (rows_in spans cs ds) ≡ length spans
length-rows_in [] cs ds = refl
length-rows_in (s ∷ spans) cs ds = grind (arith, length-rows_in spans)

-- how many pixels some spans keep
length-joined : (spans : List Span) (cs : List Colour) (ds : List ℕ) → IsHeld spans cs ds → length (joined (rows_in spans cs ds)) ≡ pixel_count spans
length-joined [] cs ds held = refl
length-joined (s ∷ spans) cs ds held =
    let more : pixel_count (s ∷ spans) ≡ s.rows * s.len + pixel_count spans = sum_by-cons (λ (r : Span). r.rows * r.len) s spans in
    grind (arith, length-joined spans, length-drop, length-append, length-span_pixels, colours-cons, depths-cons)

-- the values behind those of some spans are those of the next spans
rows_in-append : (spans more : List Span) (cs later : List Colour) (ds deep : List ℕ) → IsHeld spans cs ds
    → rows_in (spans ++ more) (cs ++ later) (ds ++ deep) ≡ rows_in spans cs ds ++ rows_in more later deep
rows_in-append [] more cs later ds deep held = grind (arith, nil_from_length)
rows_in-append (s ∷ spans) more cs later ds deep held =
    grind (arith, colours-cons, depths-cons, span_pixels-more, drop-append-le, rows_in-append spans more, length-drop)

-- ---- the first k spans and the others, each with their own values
module _ (spans : List Span) (cs : List Colour) (ds : List ℕ) (k n m : ℕ) (held : IsHeld spans cs ds) (within : k ≤ length spans)
    (counted : n ≡ colour_count (take k spans)) (deep_counted : m ≡ depth_count (take k spans)) where
  apart : rows_in spans cs ds ≡ rows_in (take k spans) (take n cs) (take m ds) ++ rows_in (drop k spans) (drop n cs) (drop m ds)
  apart = grind (arith, rows_in-append, sum_by-take-le, length-take, take-append-drop k spans, take-append-drop n cs, take-append-drop m ds)

  pub rows_before : rows_in (take k spans) (take n cs) (take m ds) ≡ take k (rows_in spans cs ds)
  rows_before = grind (arith, apart, take_at, length-rows_in, length-take)

  pub rows_behind : rows_in (drop k spans) (drop n cs) (drop m ds) ≡ drop k (rows_in spans cs ds)
  rows_behind = grind (arith, apart, drop_at, length-rows_in, length-take)

-- how many pixels the spans from one on keep
pub pixels_behind : (spans : List Span) (cs : List Colour) (ds : List ℕ) (k : ℕ) → IsHeld spans cs ds → k ≤ length spans
    → length (joined (drop k (rows_in spans cs ds))) ≡ pixel_count (drop k spans)
pixels_behind spans cs ds k held within =
    grind (arith, rows_behind spans cs ds k _ _ held within refl refl, length-joined, length-drop, sum_by-take-drop)

-- how many values stand between two places
pub count_between : (g : Span → ℕ) (spans : List Span) (f e : ℕ) → f ≤ e
    → sum_by g (take (e - f) (drop f spans)) ≡ sum_by g (take e spans) - sum_by g (take f spans)
count_between g spans f e ordered = grind (arith, sum_by-take-drop g (take e spans) f, take-take, drop-take f (e - f) spans)

pub count_rises : (g : Span → ℕ) (spans : List Span) (f e : ℕ) → f ≤ e → sum_by g (take f spans) ≤ sum_by g (take e spans)
count_rises g spans f e ordered = rw (← take-take f e spans ordered) (sum_by-take-le g (take e spans) f)

pub tail_is : {V : Type 0} (start : ℕ) (values : List V) → take (length values - start) (drop start values) ≡ drop start values
tail_is start values = take_rest values start

-- ---- the last span apart
abbrev last : List Span → Span
last spans = get_or spans (length spans - 1) no_span

count_last : (g : Span → ℕ) (spans : List Span) → 0 < length spans → sum_by g (others spans) + g (last spans) ≡ sum_by g spans
count_last g spans some = grind (arith, common_steps)

abbrev start : List Span → List Colour → ℕ
start spans cs = length cs - listed_colours (last spans)

abbrev deep_start : List Span → List ℕ → ℕ
deep_start spans ds = length ds - listed_depths (last spans)

module _ (spans : List Span) (cs : List Colour) (ds : List ℕ) (held : IsHeld spans cs ds) (some : 0 < length spans) where
  pub rows-last : rows_in spans cs ds ≡ rows_in (others spans) (take (start spans cs) cs) (take (deep_start spans ds) ds)
      ++ span_pixels (last spans) (drop (start spans cs) cs) (drop (deep_start spans ds) ds) ∷ []
  rows-last =
      let newest = others-newest spans no_span some in
      grind (arith, rows_in-append, count_last, length-take, take-append-drop (start spans cs) cs, take-append-drop (deep_start spans ds) ds)

-- ---- one span more
ruleset keeping = (common_steps, length-rows_in, length-append, length-take, take-append-le, drop-append-le, take-take, append_assoc, joined-push)

pub keeps-pushed : {h : Held} {first : ℕ} {spans : List Span} {cs : List Colour} {ds : List ℕ} {a b c : ℕ} (s : Span) (new : List Colour) (deeper : List ℕ)
    → IsHeld h.spans h.colours h.depths → spans ≡ h.spans ++ s ∷ [] → cs ≡ h.colours ++ new → ds ≡ h.depths ++ deeper → first ≤ length h.spans
    → KeepsMore first h (record { spans = spans; colours = cs; depths = ds; spans_left = a; colours_left = b; depths_left = c }) (span_pixels s new deeper)
keeps-pushed s new deeper held spans_are colours_are depths_are low = grind (arith, keeping, rows_in-append)

-- ---- one row more
module _ {h : Held} {first : ℕ} {row grown : Span} {old : List Colour} {deep : List ℕ} {spans : List Span} {cs : List Colour} {ds : List ℕ}
    (is : GrowsBy first h row (get_or old 0 fresh) grown) (values : IsRowOf old deep row) (held : IsHeld h.spans h.colours h.depths)
    (spans_are : spans ≡ others h.spans ++ grown ∷ []) (colours_are : cs ≡ h.colours ++ take (if row.one_colour then 0 else row.len) old)
    (depths_are : ds ≡ h.depths ++ take (listed_depths row) deep) where
  abbrev n : ℕ
  n = start h.spans h.colours

  abbrev m : ℕ
  m = deep_start h.spans h.depths

  rows-grown : rows_in spans cs ds ≡ rows_in (others h.spans) (take n h.colours) (take m h.depths)
      ++ (span_pixels (last h.spans) (drop n h.colours) (drop m h.depths) ++ kept_row row.x row.y (zip old deep)) ∷ []
  rows-grown =
      let colours = take-append-drop n h.colours in
      let depths = take-append-drop m h.depths in
      grind (arith, rows_in-append, length-take, length-drop, count_last, span_pixels-grown, get_or-drop, append_assoc)

  pub held-grown : IsHeld spans cs ds
  held-grown = grind (arith, grown_listed (last h.spans) row grown old deep, count_last, sum_by_push, length-append)

  pub keeps-grown : {a b c : ℕ} → KeepsMore first h
      (record { spans = spans; colours = cs; depths = ds; spans_left = a; colours_left = b; depths_left = c }) (kept_row row.x row.y (zip old deep))
  keeps-grown = grind (arith, keeping, rows-last, rows-grown)

-- ---- what the goals of a function want, which names it in its attribute
pub ruleset kept_pixel_of_steps = (length-drop, drop-drop, get_or-zip, length-colours_in, length-depths_in, colours_behind, depths_behind)

pub ruleset lists_drop_from_steps = (rows_before, pixels_behind, take_rest, length-take, sum_by-take-le)

pub ruleset lists_slices_steps = (rows_before, rows_behind, sum_by-take-drop, count_between, count_rises, length-take, length-drop, sum_by-take-le)

pub ruleset slices_split_last_steps = (rows-last, joined-push)
