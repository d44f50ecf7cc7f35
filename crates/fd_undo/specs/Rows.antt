-- Working. Spans, and the lists in which the values of their pixels stand.
use Rattle.std.specs.Prelude.{◌≡◌, ℕ, ◌-◌, ◌*◌, ◌<◌, ◌≤◌, ◌&&◌, nat_le, nat_lt, Bool, true, false, List, [], ◌∷◌, ◌++◌, length, take, drop}
use Rattle.std.specs.Prelude.{slice_index_or, if◌then◌else◌, replicate, Option, Some, None}
use Rattle.std.specs.List.{sum_by, zip}
use Rattle.fd_blend.specs.declared.channel.Colour.{Colour}
use Rattle.fd_blend.specs.Channel.{fresh}
use Rattle.fd_undo.specs.Span.{Span, IsGrown}
use Rattle.fd_tile.specs.Tile.{Pixel}
use Rattle.fd_undo.specs.Frame.{KeptPixel, kept_row, kept_rows}

-- spans, oldest first, their values, and how many more spans, colours and depths have room
pub record Held : Type 0 where
  pub spans : List Span
  pub colours : List Colour
  pub depths : List ℕ
  pub spans_left : ℕ
  pub colours_left : ℕ
  pub depths_left : ℕ

-- a span that nothing rests on
abbrev pub no_span : Span
no_span = record { x = 0; y = 0; len = 0; rows = 1; one_colour = false; same_depth = None }

-- whether pixel (x, y) is one of a span's
abbrev pub span_holds : Span → ℕ → ℕ → Bool
span_holds s x y = (nat_le s.y y && nat_lt (y - s.y) s.rows) && (nat_le s.x x && nat_lt (x - s.x) s.len)

-- how many colours in the list are those of so many pixels of a span, and the colours of a row that stands first: the first one for all, or the next ones
abbrev pub row_colours : Span → ℕ
row_colours s = if s.one_colour then 1 else s.len

abbrev pub colours_in : Span → List Colour → List Colour
colours_in s colours = if s.one_colour then replicate s.len (slice_index_or colours 0 fresh) else take s.len colours

-- the colours of the list from row n of a span on
abbrev pub colours_from : Span → ℕ → List Colour → List Colour
colours_from s n colours = drop (if s.one_colour then 0 else n * s.len) colours

-- the same of depths: all are so deep, or each pixel has its own
abbrev pub depths_listed : Option ℕ → ℕ → ℕ
depths_listed (Some depth) len = 0
depths_listed None len = len

abbrev pub values_in : Option ℕ → ℕ → List ℕ → List ℕ
values_in (Some depth) len depths = replicate len depth
values_in None len depths = take len depths

abbrev pub row_depths : Span → ℕ
row_depths s = depths_listed s.same_depth s.len

abbrev pub depths_in : Span → List ℕ → List ℕ
depths_in s depths = values_in s.same_depth s.len depths

abbrev pub depths_from : Span → ℕ → List ℕ → List ℕ
depths_from s n depths = drop (depths_listed s.same_depth (n * s.len)) depths

-- how many values of the lists are a span's
abbrev pub listed_colours : Span → ℕ
listed_colours s = if s.one_colour then 1 else s.rows * s.len

abbrev pub listed_depths : Span → ℕ
listed_depths s = depths_listed s.same_depth (s.rows * s.len)

-- how many values of the lists are those of some spans
abbrev pub colour_count : List Span → ℕ
colour_count spans = sum_by (λ s. listed_colours s) spans

abbrev pub depth_count : List Span → ℕ
depth_count spans = sum_by (λ s. listed_depths s) spans

-- how many pixels some spans have
abbrev pub pixel_count : List Span → ℕ
pixel_count spans = sum_by (λ s. s.rows * s.len) spans

-- row y of a span, where the values of that row stand first in the lists
abbrev pub row_of_span : Span → ℕ → List Colour → List ℕ → List KeptPixel
row_of_span s y colours depths = kept_row s.x y (zip (colours_in s colours) (depths_in s depths))

-- the pixels of row n of a span, from 0, and what the span keeps
abbrev pub pixels_of_row : Span → List Colour → List ℕ → ℕ → List Pixel
pixels_of_row s colours depths n = zip (colours_in s (colours_from s n colours)) (depths_in s (depths_from s n depths))

abbrev pub span_pixels : Span → List Colour → List ℕ → List KeptPixel
span_pixels s colours depths = kept_rows s.x s.y s.rows (pixels_of_row s colours depths)

-- what some spans keep, which take their values in turn
abbrev pub rows_in : List Span → List Colour → List ℕ → List (List KeptPixel)
rows_in [] colours depths = []
rows_in (s ∷ spans) colours depths = span_pixels s colours depths ∷ rows_in spans (drop (listed_colours s) colours) (drop (listed_depths s) depths)

abbrev pub rows_of : Held → List (List KeptPixel)
rows_of h = rows_in h.spans h.colours h.depths

-- rows one after the other
abbrev pub joined : List (List KeptPixel) → List KeptPixel
joined [] = []
joined (row ∷ rows) = row ++ joined rows

-- the lists have the values of the spans, and no more
pub record IsHeld (spans : List Span) (colours : List Colour) (depths : List ℕ) : Type 0 where
  pub colours_counted : colour_count spans ≡ length colours
  pub depths_counted : depth_count spans ≡ length depths

-- the spans from one on keep more, and those before it stay
pub record KeepsMore (first : ℕ) (old new : Held) (more : List KeptPixel) : Type 0 where
  pub low : take first (rows_of new) ≡ take first (rows_of old)
  pub high : joined (drop first (rows_of new)) ≡ joined (drop first (rows_of old)) ++ more
  pub spans : take first new.spans ≡ take first old.spans
  pub long : first ≤ length new.spans

-- the last span, one of those from this one on, with one row more; where that has one colour it is this one
pub record GrowsBy (first : ℕ) (h : Held) (row : Span) (colour : Colour) (grown : Span) : Type 0 where
  pub some : first < length h.spans
  pub grows : IsGrown (slice_index_or h.spans (length h.spans - 1) no_span) row grown
  pub same : row.one_colour ≡ true → slice_index_or h.colours (length h.colours - 1) fresh ≡ colour
