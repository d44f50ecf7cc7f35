-- Tiles by their pixels.
use Rattle.std.proofs.Common.{◌≡◌, ◌≢◌, ℕ, zero, suc, ◌+◌, ◌-◌, ◌<◌, ◌≤◌, List, [], ◌∷◌, ◌++◌, length, get_or, take, replicate, refl, sym, ap, ◌∙◌, arith}
use Rattle.std.specs.Prelude.{map}
use Rattle.std.specs.List.{refill, range_with_len}
use Rattle.std.proofs.lemmas.List.{get_or_default, length-set, take_all, drop_all, append-nil, ext_get_or}
use Rattle.std.proofs.lemmas.List.{get_or-set_same, get_or-set_other, set-set, set-get_or}
use Rattle.std.proofs.lemmas.List.FromFn.{get_or-map-range_with_len, length-map-range_with_len}
use Rattle.std.proofs.lemmas.List.Elements.{All-get_or, All-set, All-from_get_or}
use Rattle.fd_blend.specs.declared.channel.Colour.{Colour}
use Rattle.fd_blend.specs.Channel.{fresh}
use Rattle.fd_tile.specs.declared.place.Place.{Place}
use Rattle.fd_tile.specs.Place.{Holds, HasRow, IsTilePlace, over_place}
use Rattle.fd_tile.specs.Tile.{TileImage, FillsPlace, IsFlat, IsTileImage, row_in, with_row_in, value_in, row_of, with_row, with_row_left}
use Rattle.fd_tile.specs.Tile.{depth_row_of, depth_in, pixels_of, pixel_of, pixel_in}

-- a list of the right length is left as it is
pub refill_same : {X : Type 0} (row w : List X) → length w ≡ length row → refill (length row) row w ≡ w
refill_same row w e =
    ap (λ l. take (length row) (w ++ l)) (drop_all (length w) row (omega arith))
    ∙ ap (λ l. take (length row) l) (append-nil w)
    ∙ take_all (length row) w (omega arith)

pub HasRow-from_Holds : (p : Place) (x y : ℕ) → Holds p x y → HasRow p y
HasRow-from_Holds p x y held = record { from_top = held.from_top; to_bottom = held.to_bottom }

-- ---- one row
module _ {X : Type 0} (p : Place) (rows : List (List X)) (y : ℕ) (filled : FillsPlace p rows) (crossed : HasRow p y) where
  row_within : y - p.top < length rows
  row_within = omega (arith, filled.high, crossed.from_top, crossed.to_bottom)

  pub length-row_in : length (row_in p rows y) ≡ p.width
  length-row_in = All-get_or (λ r. length r ≡ p.width) rows (y - p.top) [] row_within filled.wide

  -- where one value stands everywhere
  pub row_in-flat : (value : X) → IsFlat p rows value → row_in p rows y ≡ replicate p.width value
  row_in-flat value flat = All-get_or (λ r. r ≡ replicate p.width value) rows (y - p.top) [] row_within flat

  pub left_row_is : (w : List X) → length w ≡ p.width → with_row_in p rows y (refill (length (row_in p rows y)) (row_in p rows y) w) ≡ with_row_in p rows y w
  left_row_is w e = ap (λ r. with_row_in p rows y r) (refill_same (row_in p rows y) w (e ∙ sym length-row_in))

  pub row_in-same : (w : List X) → row_in p (with_row_in p rows y w) y ≡ w
  row_in-same w = get_or-set_same rows (y - p.top) w [] row_within

  pub row_in-other : (w : List X) (z : ℕ) → p.top ≤ z → z ≢ y → row_in p (with_row_in p rows y w) z ≡ row_in p rows z
  row_in-other w z low other =
      let apart : z - p.top ≢ y - p.top = λ e. other (omega (arith, crossed.from_top)) in
      get_or-set_other rows (y - p.top) (z - p.top) w [] apart

  pub with_row_in-twice : (w v : List X) → with_row_in p (with_row_in p rows y w) y v ≡ with_row_in p rows y v
  with_row_in-twice w v = set-set rows (y - p.top) w v

  pub FillsPlace-with_row_in : (w : List X) → length w ≡ p.width → FillsPlace p (with_row_in p rows y w)
  FillsPlace-with_row_in w e = record {
    placed = filled.placed;
    high = length-set rows (y - p.top) w ∙ filled.high;
    wide = All-set (λ r. length r ≡ p.width) rows (y - p.top) w e filled.wide;
  }

-- a row that is written as it is changes nothing
pub with_row_in-as_it_is : {X : Type 0} (p : Place) (rows : List (List X)) (y : ℕ) → with_row_in p rows y (row_in p rows y) ≡ rows
with_row_in-as_it_is p rows y = set-get_or rows (y - p.top) []

-- ---- a row of a tile's colours, and one of its depths
module _ (t : TileImage) (y : ℕ) (filled : IsTileImage t) (crossed : HasRow t.place y) where
  pub length-row_of : length (row_of t y) ≡ t.place.width
  length-row_of = length-row_in t.place t.rows y filled.colours crossed

  pub with_row_left_is : (w : List Colour) → length w ≡ t.place.width → with_row_left t y w ≡ with_row t y w
  with_row_left_is w e = ap (λ rows. record t { rows = rows }) (left_row_is t.place t.rows y filled.colours crossed w e)

  pub length-depth_row_of : length (depth_row_of t y) ≡ t.place.width
  length-depth_row_of = length-row_in t.place t.depths y filled.depths crossed

  pub IsTileImage-with_row : (w : List Colour) → length w ≡ t.place.width → IsTileImage (with_row t y w)
  IsTileImage-with_row w e = record { colours = FillsPlace-with_row_in t.place t.rows y filled.colours crossed w e; depths = filled.depths }

-- a pixel's column lies in its rows
module _ (t : TileImage) (x y : ℕ) (filled : IsTileImage t) (held : Holds t.place x y) where
  pub colour_within : x - t.place.left < length (row_of t y)
  colour_within = omega (arith, held.from_left, held.to_right, length-row_of t y filled (HasRow-from_Holds t.place x y held))

  pub depth_within : x - t.place.left < length (depth_row_of t y)
  depth_within = omega (arith, held.from_left, held.to_right, length-depth_row_of t y filled (HasRow-from_Holds t.place x y held))

  pub depth_at : get_or (depth_row_of t y) (x - t.place.left) 0 ≡ depth_in t x y
  depth_at = get_or_default (depth_row_of t y) (x - t.place.left) 0 65535 depth_within

-- ---- all pixels

-- rows that agree at each pixel of the place are equal
pub rows_ext : {X : Type 0} (p : Place) (ts us : List (List X)) (other : X) → FillsPlace p ts → FillsPlace p us
    → ((x y : ℕ) → Holds p x y → value_in p ts x y other ≡ value_in p us x y other)
    → ts ≡ us
rows_ext p ts us other filled filled' same =
    ext_get_or [] ts us (filled.high ∙ sym filled'.high)
    (λ i below.
    let here : i < length us = omega (arith, filled.high, filled'.high) in
    let left : length (get_or ts i []) ≡ p.width = All-get_or (λ r. length r ≡ p.width) ts i [] below filled.wide in
    let right : length (get_or us i []) ≡ p.width = All-get_or (λ r. length r ≡ p.width) us i [] here filled'.wide in
    ext_get_or other (get_or ts i []) (get_or us i []) (left ∙ sym right)
    (λ j within.
    let row : p.top + i - p.top ≡ i = omega arith in
    let column : p.left + j - p.left ≡ j = omega arith in
    let held : Holds p (p.left + j) (p.top + i) =
    record { from_left = omega arith; to_right = omega arith; from_top = omega arith; to_bottom = omega (arith, filled.high) } in
    sym (ap (λ k. get_or (get_or ts k []) (p.left + j - p.left) other) row ∙ ap (λ k. get_or (get_or ts i []) k other) column)
    ∙ same (p.left + j) (p.top + i) held
    ∙ (ap (λ k. get_or (get_or us k []) (p.left + j - p.left) other) row ∙ ap (λ k. get_or (get_or us i []) k other) column)))

pub FillsPlace-over_place : {X : Type 0} (p : Place) (f : ℕ → ℕ → X) → IsTilePlace p → FillsPlace p (over_place p f)
FillsPlace-over_place p f placed = record {
  placed = placed;
  high = length-map-range_with_len (λ y. map (λ x. f x y) (range_with_len p.left p.width)) p.top p.height;
  wide = All-from_get_or (λ r. length r ≡ p.width) (over_place p f) []
      (λ i below.
      let row : i < p.height = omega (arith, length-map-range_with_len (λ y. map (λ x. f x y) (range_with_len p.left p.width)) p.top p.height) in
      ap length (get_or-map-range_with_len (λ y. map (λ x. f x y) (range_with_len p.left p.width)) p.top p.height i (p.top + i) [] row refl)
      ∙ length-map-range_with_len (λ x. f x (p.top + i)) p.left p.width);
}

-- what f gives over a place is there
pub value_in-over_place : {X : Type 0} (p : Place) (f : ℕ → ℕ → X) (x y : ℕ) (other : X) → Holds p x y → value_in p (over_place p f) x y other ≡ f x y
value_in-over_place p f x y other held =
    let row : y - p.top < p.height = omega (arith, held.from_top, held.to_bottom) in
    let column : x - p.left < p.width = omega (arith, held.from_left, held.to_right) in
    let down : p.top + (y - p.top) ≡ y = omega (arith, held.from_top) in
    let across : p.left + (x - p.left) ≡ x = omega (arith, held.from_left) in
    ap (λ r. get_or r (x - p.left) other)
    (get_or-map-range_with_len (λ z. map (λ w. f w z) (range_with_len p.left p.width)) p.top p.height (y - p.top) y [] row down)
    ∙ get_or-map-range_with_len (λ w. f w y) p.left p.width (x - p.left) x other column across

-- rows with what f gives at each pixel are what f gives over the place
pub rows_from_pixels : {X : Type 0} (p : Place) (rows : List (List X)) (f : ℕ → ℕ → X) (other : X) → FillsPlace p rows
    → ((x y : ℕ) → Holds p x y → value_in p rows x y other ≡ f x y) → rows ≡ over_place p f
rows_from_pixels p rows f other filled same =
    rows_ext p rows (over_place p f) other filled (FillsPlace-over_place p f filled.placed)
    (λ x y held. same x y held ∙ sym (value_in-over_place p f x y other held))

pub map-range_same : {X : Type 0} (f g : ℕ → X) (a n : ℕ) → ((k : ℕ) → a ≤ k → k < a + n → f k ≡ g k) → map f (range_with_len a n) ≡ map g (range_with_len a n)
map-range_same f g a zero same = refl
map-range_same f g a (suc n) same =
    ap (λ x. x ∷ map f (range_with_len (a + 1) n)) (same a (omega arith) (omega arith))
    ∙ ap (λ l. g a ∷ l) (map-range_same f g (a + 1) n (λ k low high. same k (omega arith) (omega arith)))

-- what agrees at each pixel of a place is equal over it
pub over_place_same : {X : Type 0} (p : Place) (f g : ℕ → ℕ → X) → ((x y : ℕ) → Holds p x y → f x y ≡ g x y) → over_place p f ≡ over_place p g
over_place_same p f g same =
    map-range_same (λ y. map (λ x. f x y) (range_with_len p.left p.width)) (λ y. map (λ x. g x y) (range_with_len p.left p.width)) p.top p.height
    (λ y low high. map-range_same (λ x. f x y) (λ x. g x y) p.left p.width
    (λ x from to. same x y (record { from_left = from; to_right = to; from_top = low; to_bottom = high })))

-- a tile's pixels, as an image of its place
pub pixel_in-pixels_of : (t : TileImage) (x y : ℕ) → Holds t.place x y → pixel_in t.place (pixels_of t) x y ≡ pixel_of t x y
pixel_in-pixels_of t x y held = value_in-over_place t.place (λ x y. pixel_of t x y) x y (fresh, 65535) held
