-- Kept pixels that are written back: pixels, rows, and whole rows at once.
use Rattle.std.proofs.lemmas.Bool.Decides.{nat_tests}
use Rattle.std.proofs.lemmas.Grind.{common_steps}
use Rattle.std.proofs.Common.{inl, inr, ◌≡◌, ℕ, zero, suc, ◌+◌, ◌-◌, ◌*◌, ◌<◌, ◌≤◌, Bool, List, [], ◌∷◌, ◌++◌, length, take, drop, replicate, refl, arith}
use Rattle.std.proofs.Common.{Option, Some, None, length-append, length-drop}
use Rattle.std.specs.Prelude.{slice_set, All, IsSomeAnd}
use Rattle.std.proofs.lemmas.List.{take_more, set_at, length-take, drop_all, drop-drop, append-nil, get_or_append_left, take-replicate, drop-replicate}
use Rattle.std.proofs.lemmas.List.{replicate-append-replicate, get_or-set_same}
use borrow.Rule.Slice.PartMut.{put_mid, same_len_mid}
use Rattle.std.proofs.lemmas.List.Elements.{All-append, All-nil, All-cons}
use Rattle.fd_blend.specs.declared.channel.Colour.{Colour}
use Rattle.fd_tile.specs.declared.place.Place.{Place}
use Rattle.fd_tile.specs.Place.{Holds, HasRow}
use Rattle.std.specs.List.{zip}
use Rattle.fd_tile.specs.Tile.{Pixel, TileImage, IsFlat, IsTileImage, row_of, depth_row_of, with_row, with_depth_row, with_row_left, with_rows_from, cut_rows}
use Rattle.fd_tile.proofs.Pixels.{length-row_in, left_row_is, row_in-flat, with_row_in-twice, with_row_in-as_it_is, IsTileImage-with_row}
use Rattle.fd_undo.specs.Span.{Span}
use Rattle.fd_undo.specs.Frame.{KeptPixel, kept_row, kept_rows, kept_at, restored, FitDepths}
use Rattle.fd_undo.specs.Whole.{AreWholeRows, HoldsSpan, IsAsDeep}
use Rattle.fd_undo.specs.Rows.{row_colours, row_depths, listed_colours, listed_depths, colours_in, depths_in, values_in}
use Rattle.fd_undo.specs.Rows.{pixels_of_row, span_pixels, row_of_span}
use Rattle.fd_undo.proofs.RowLemmas.{length-pixels_of_row, length-colours_in, length-depths_in, colours_behind, depths_behind, span_pixels-none, tail_is}
use Rattle.fd_undo.proofs.KeptAt.{kept_at-span, kept_at-append}

-- the pixels of a frame lie in the place
abbrev pub Inside : Place → List KeptPixel → Type 0
Inside p ks = All (λ k. Holds p k.x k.y) ks

pub kept_row-inside : (p : Place) (x y : ℕ) (old : List Pixel) → HasRow p y → p.left ≤ x → x + length old ≤ p.left + p.width → Inside p (kept_row x y old)
kept_row-inside p x y [] crossed low high = λ i d below. absurd (omega (arith, below))
kept_row-inside p x y (c ∷ cs) crossed low high = grind (arith, common_steps, kept_row-inside p (x + 1) y cs crossed (omega arith) (omega arith))

pub kept_rows-inside : (p : Place) (x y n w : ℕ) (pixels : ℕ → List Pixel) → p.left ≤ x → x + w ≤ p.left + p.width → p.top ≤ y → y + n ≤ p.top + p.height
    → ((row : ℕ) → row < n → length (pixels row) ≡ w) → Inside p (kept_rows x y n pixels)
kept_rows-inside p x y zero w pixels left right top bottom wide = λ i d below. absurd (omega (arith, below))
kept_rows-inside p x y (suc n) w pixels left right top bottom wide =
    let row = kept_row-inside p x (y + n) (pixels n) (record { from_top = omega (arith, top); to_bottom = omega (arith, bottom) }) left
    (omega (arith, right, wide n (omega arith))) in
    let above = kept_rows-inside p x y n w pixels left right top (omega (arith, bottom)) (λ row below. wide row (omega arith)) in
    All-append (λ (k : KeptPixel). Holds p k.x k.y) (kept_rows x y n pixels) (kept_row x (y + n) (pixels n)) above row

-- a pixel that is kept lies there
pub held_at : (p : Place) (ks : List KeptPixel) (x y : ℕ) → Inside p ks → 0 < length (kept_at ks x y) → Holds p x y
held_at p [] x y inside some = absurd (omega arith)
held_at p (k ∷ ks) x y inside some =
    grind (arith, nat_tests, inside 0 k (omega arith), held_at p ks x y (λ i d below. inside (suc i) d (omega (arith, below))))

-- ---- a frame put back
pub restored-append : (ks ls : List KeptPixel) (t : TileImage) → restored (ks ++ ls) t ≡ restored ks (restored ls t)
restored-append [] ls t = refl
restored-append (k ∷ ks) ls t = cc (restored-append ks ls t)

pub restored-place : (ks : List KeptPixel) (t : TileImage) → (restored ks t).place ≡ t.place
restored-place [] t = refl
restored-place (k ∷ ks) t = restored-place ks t

pub restored-made : (ks : List KeptPixel) (t : TileImage) → (restored ks t).made ≡ t.made
restored-made [] t = refl
restored-made (k ∷ ks) t = restored-made ks t

pub restored-deep : (ks : List KeptPixel) (t : TileImage) → (restored ks t).deep ≡ t.deep
restored-deep [] t = refl
restored-deep (k ∷ ks) t = restored-deep ks t

-- ---- depths that a tile has a place for
All-front : {X : Type 0} (P : X → Type 0) (xs ys : List X) → All P (xs ++ ys) → All P xs
All-front P [] ys all = All-nil P
All-front P (x ∷ xs) ys all = All-cons P x xs (all 0 x (omega arith)) (All-front P xs ys (λ i d below. all (suc i) d (omega (arith, below))))

All-rest : {X : Type 0} (P : X → Type 0) (xs ys : List X) → All P (xs ++ ys) → All P ys
All-rest P [] ys all = all
All-rest P (x ∷ xs) ys all = All-rest P xs ys (λ i d below. all (suc i) d (omega (arith, below)))

-- a frame that keeps nothing has none
pub fit-nothing : (deep : Bool) → FitDepths deep []
fit-nothing deep = record { greatest = λ _. All-nil (λ (k : KeptPixel). k.pixel.1 ≡ 65535) }

-- those of a frame's parts
pub fit_front : (deep : Bool) (ks ls : List KeptPixel) → FitDepths deep (ks ++ ls) → FitDepths deep ks
fit_front deep ks ls fit = record { greatest = λ not. All-front (λ (k : KeptPixel). k.pixel.1 ≡ 65535) ks ls (fit.greatest not) }

pub fit_rest : (deep : Bool) (ks ls : List KeptPixel) → FitDepths deep (ks ++ ls) → FitDepths deep ls
fit_rest deep ks ls fit = record { greatest = λ not. All-rest (λ (k : KeptPixel). k.pixel.1 ≡ 65535) ks ls (fit.greatest not) }

-- those of a row
row_greatest : (x y : ℕ) (cs : List Colour) (ds : List ℕ) → length ds ≡ length cs → All (λ k. k.pixel.1 ≡ 65535) (kept_row x y (zip cs ds))
    → ds ≡ replicate (length ds) 65535
row_greatest x y cs [] equal all = refl
row_greatest x y [] (d ∷ ds) equal all = absurd (omega arith)
row_greatest x y (c ∷ cs) (d ∷ ds) equal all =
    let first : d ≡ 65535 = all 0 (record { x = x; y = y; pixel = (c, d) }) (omega arith) in
    let later = row_greatest (x + 1) y cs ds (omega arith) (λ i k below. all (suc i) k (omega (arith, below))) in
    cc (first, later)

-- the last of some spans is put back first; where it has pixels it lies in the place
pub last_restored : (ks : List KeptPixel) (s : Span) (cs : List Colour) (ds : List ℕ) (t : TileImage) → listed_colours s ≤ length cs
    → listed_depths s ≤ length ds → Inside t.place (ks ++ span_pixels s cs ds)
    → (restored (ks ++ span_pixels s cs ds) t ≡ restored ks (restored (span_pixels s cs ds) t)) × Inside t.place ks
    × (1 ≤ s.rows → 0 < s.len → HoldsSpan t.place s)
last_restored ks s cs ds t fits deep_fits inside =
    let at = λ (x y : ℕ). held_at t.place (ks ++ span_pixels s cs ds) (s.x + x) (s.y + y) inside in
    let first = at 0 0 in
    let last = at (s.len - 1) (s.rows - 1) in
    grind (arith, nat_tests, kept_at-append, length-append, kept_at-span, length-pixels_of_row, restored-append, get_or_append_left)

-- ---- a part of one row
-- one value more at the front of a part that is written
put_mid-more : {X : Type 0} (j : ℕ) (c : X) (cs row : List X) → j + suc (length cs) ≤ length row
    → put_mid j (suc (length cs)) row (c ∷ cs) ≡ slice_set (put_mid (j + 1) (length cs) row cs) j c
put_mid-more j c cs row fits = grind (arith, common_steps, take_more row j c, set_at)

-- what is put back in one row
pub row_restored : (t : TileImage) (x y : ℕ) (old : List Colour) (deep : List ℕ) → length deep ≡ length old → IsTileImage t → HasRow t.place y
    → t.place.left ≤ x → x + length old ≤ t.place.left + t.place.width
    → restored (kept_row x y (zip old deep)) t ≡ with_depth_row (with_row t y (put_mid (x - t.place.left) (length old) (row_of t y) old)) y
    (put_mid (x - t.place.left) (length deep) (depth_row_of t y) deep)
row_restored t x y [] deep equal filled crossed low high = grind (arith, common_steps)
row_restored t x y (c ∷ cs) deep equal filled crossed low high =
    grind (arith, row_restored t (x + 1) y cs, put_mid-more, get_or-set_same, with_row_in-twice, length-row_in)

-- ---- one row of a span
-- how long the parts of rows are
pub ruleset row_parts = (left_row_is, same_len_mid, length-row_in, length-take, length-drop)

pub ruleset span_values = (length-colours_in, length-depths_in, colours_behind, depths_behind, length-drop)

-- those of a span that has one
values_flat : (known : Option ℕ) (n : ℕ) (ds : List ℕ) (P : ℕ → Type 0) → IsSomeAnd known P → (depth : ℕ) × (values_in known n ds ≡ replicate n depth) × P depth
values_flat (Some depth) n ds P is = (depth, refl, is)
values_flat None n ds P is = absurd is

-- its depths, where all pixels are as deep
one_depth : (t : TileImage) (s : Span) (y : ℕ) (cs : List Colour) (ds : List ℕ) → row_colours s ≤ length cs → row_depths s ≤ length ds
    → FitDepths t.deep (row_of_span s y cs ds) → IsAsDeep t s → (depth : ℕ) × (depths_in s ds ≡ replicate s.len depth) × IsFlat t.place t.depths depth
one_depth t s y cs ds counted deep_counted fit (inl shallow) =
    let colours = length-colours_in s cs counted in
    let depths = length-depths_in s ds deep_counted in
    let all = row_greatest s.x y (colours_in s cs) (depths_in s ds) (omega arith) (fit.greatest shallow.0) in
    (65535, rw depths at all, shallow.1)
one_depth t s y cs ds counted deep_counted fit (inr flat) = values_flat s.same_depth s.len ds (λ depth. IsFlat t.place t.depths depth) flat

-- where all pixels are as deep as its own, their depths stand
pub row_flat : (t : TileImage) (s : Span) (y : ℕ) (cs : List Colour) (ds : List ℕ) → row_colours s ≤ length cs → row_depths s ≤ length ds → IsTileImage t
    → Holds t.place s.x y → s.x + s.len ≤ t.place.left + t.place.width → FitDepths t.deep (row_of_span s y cs ds) → IsAsDeep t s
    → restored (row_of_span s y cs ds) t ≡ with_row_left t y (put_mid (s.x - t.place.left) s.len (row_of t y) (colours_in s cs))
row_flat t s y cs ds counted deep_counted filled first within fit flat =
    let one = one_depth t s y cs ds counted deep_counted fit flat in
    grind (arith, one, row_restored, row_parts, span_values, row_in-flat, take-replicate, drop-replicate, replicate-append-replicate, with_row_in-as_it_is)

-- ---- whole rows: the last of them is put back first
with_rows_from-last : (t : TileImage) (y w n : ℕ) (cs : List Colour) → with_rows_from t y (cut_rows w (suc n) cs)
    ≡ with_rows_from (with_row t (y + n) (take w (drop (n * w) cs))) y (cut_rows w n cs)
with_rows_from-last t y w zero cs = grind arith
with_rows_from-last t y w (suc n) cs = grind (arith, with_rows_from-last t (y + 1) w n (drop w cs), drop-drop)

pub rows_whole : (s : Span) (cs : List Colour) (ds : List ℕ) (n : ℕ) (t : TileImage) → length cs ≡ listed_colours s → length ds ≡ listed_depths s → n ≤ s.rows
    → IsTileImage t → HoldsSpan t.place s → FitDepths t.deep (kept_rows s.x s.y n (pixels_of_row s cs ds)) → AreWholeRows t s
    → restored (kept_rows s.x s.y n (pixels_of_row s cs ds)) t ≡ with_rows_from t s.y (cut_rows t.place.width n cs)
rows_whole s cs ds zero t counted deep_counted above filled lies fit is = refl
rows_whole s cs ds (suc n) t counted deep_counted above filled lies fit is =
    let front = fit_front t.deep (kept_rows s.x s.y n (pixels_of_row s cs ds)) (kept_row s.x (s.y + n) (pixels_of_row s cs ds n)) fit in
    let last = fit_rest t.deep (kept_rows s.x s.y n (pixels_of_row s cs ds)) (kept_row s.x (s.y + n) (pixels_of_row s cs ds n)) fit in
    grind (
      arith,
      front,
      last,
      rows_whole s cs ds n,
      restored-append,
      row_flat,
      span_values,
      row_parts,
      IsTileImage-with_row,
      drop_all,
      append-nil,
      with_rows_from-last,
    )

pub kept_rows-last : (x y n : ℕ) (pixels : ℕ → List Pixel) → 0 < n
    → kept_rows x y n pixels ≡ kept_rows x y (n - 1) pixels ++ kept_row x (y + (n - 1)) (pixels (n - 1))
kept_rows-last x y n pixels some = grind arith

-- ---- what the goals of some functions want, which name it in their attributes
pub ruleset put_spans_steps = (last_restored, restored-place, restored-made, restored-deep, fit_front, fit_rest)

pub ruleset put_back_steps = (
  span_pixels-none,
  rows_whole,
  tail_is,
  kept_rows-last,
  restored-append,
  restored-place,
  restored-made,
  restored-deep,
  fit_front,
  fit_rest,
)
