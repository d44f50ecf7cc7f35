-- Rows that stand one after the other in a list.
use Rattle.std.proofs.Common.{◌≡◌, ℕ, zero, suc, ◌+◌, ◌-◌, ◌*◌, ◌<◌, ◌≤◌, List, [], ◌∷◌, ◌++◌, length, get_or, take, drop, replicate, refl, sym, ap}
use Rattle.std.proofs.Common.{◌∙◌, arith, append_assoc, length-append, length-drop, Option, Bool, true, false}
use Rattle.std.specs.Prelude.{slice_set, unwrap_or, All, if◌then◌else◌, ◌&&◌}
use Rattle.std.proofs.Math.Nat.{zero-mul, suc-mul, add-mul, mul-le-mul_right}
use Rattle.std.proofs.lemmas.Nat.{row_fits}
use Rattle.std.proofs.lemmas.List.{take-take, take-append-le, drop-append-le, drop-drop, drop-take, length-take-le}
use Rattle.std.proofs.lemmas.List.{set_at, take_all, take-append-drop, take-replicate, drop-replicate, length-replicate, replicate-append-replicate}
use Rattle.std.proofs.lemmas.List.{with_items_is}
use Rattle.std.proofs.lemmas.List.Elements.{All-nil, All-cons, All-replicate}
use Rattle.std.specs.List.{refill, length_refill}
use Rattle.std.specs.Global.{Vec}
use Rattle.std.specs.Vec.{with_items}
use Rattle.fd_tile.specs.declared.place.Place.{Place}
use Rattle.fd_tile.specs.Place.{HasRow, IsTilePlace}
use Rattle.fd_tile.specs.Part.{part_left, pasted_at}
use Rattle.fd_blend.specs.declared.channel.Colour.{Colour}
use Rattle.fd_tile.specs.Tile.{FillsPlace, IsTileImage, IsTile, cut_rows, row_cut, rows_over, row_in, of_rows, with_row_in, with_row, with_rows_from}
use Rattle.fd_tile.specs.Tile.{flat_over, rows_shown}
use Rattle.fd_blend.specs.Channel.{fresh}

length-pasted_at : {X : Type 0} (i : ℕ) (new xs : List X) → i + length new ≤ length xs → length (pasted_at i new xs) ≡ length xs
length-pasted_at i new xs fits = simp (length-append, length-drop) (omega (arith, length-take-le i xs (omega arith)))

pub length-cut_rows : {X : Type 0} (w n : ℕ) (xs : List X) → length (cut_rows w n xs) ≡ n
length-cut_rows w zero xs = refl
length-cut_rows w (suc n) xs = ap (λ k. suc k) (length-cut_rows w n (drop w xs))

pub cut_rows-wide : {X : Type 0} (w n : ℕ) (xs : List X) → n * w ≤ length xs → All (λ row. length row ≡ w) (cut_rows w n xs)
cut_rows-wide w zero xs fits = All-nil (λ row. length row ≡ w)
cut_rows-wide w (suc n) xs fits =
    let more : suc n * w ≡ n * w + w = suc-mul n w in
    All-cons (λ row. length row ≡ w) (take w xs) (cut_rows w n (drop w xs)) (length-take-le w xs (omega arith))
    (cut_rows-wide w n (drop w xs) (omega (arith, length-drop w xs)))

-- one row
pub cut_rows-at : {X : Type 0} (w n i : ℕ) (xs : List X) → i < n → get_or (cut_rows w n xs) i [] ≡ take w (drop (i * w) xs)
cut_rows-at w zero i xs within = absurd (omega arith)
cut_rows-at w (suc n) zero xs within = ap (λ k. take w (drop k xs)) (sym (zero-mul w))
cut_rows-at w (suc n) (suc i) xs within =
    let more : suc i * w ≡ i * w + w = suc-mul i w in
    cut_rows-at w n i (drop w xs) (omega arith)
    ∙ ap (λ l. take w l) (drop-drop (i * w) w xs ∙ ap (λ k. drop k xs) {x = w + i * w} {y = suc i * w} (omega arith))

-- those of two lists, one after the other
cut_rows-append : {X : Type 0} (w m n : ℕ) (xs ys : List X) → length xs ≡ m * w → cut_rows w (m + n) (xs ++ ys) ≡ cut_rows w m xs ++ cut_rows w n ys
cut_rows-append w zero n [] ys long = ap (λ k. cut_rows w k ys) {x = zero + n} {y = n} (omega arith)
cut_rows-append w zero n (x ∷ xs) ys long = absurd (omega (arith, zero-mul w))
cut_rows-append w (suc m) n xs ys long =
    let more : suc m * w ≡ m * w + w = suc-mul m w in
    let low : w ≤ length xs = omega arith in
    let next : suc m + n ≡ suc (m + n) = omega arith in
    rw (next, take-append-le w xs ys low, drop-append-le w xs ys low, cut_rows-append w m n (drop w xs) ys (omega (arith, length-drop w xs)))

rows_fit : (d k h w : ℕ) → d + k ≤ h → d * w + k * w ≤ h * w
rows_fit d k h w fits = omega (arith, add-mul d k w, mul-le-mul_right w fits)

-- k rows from row i on, of h: those above them, those below, and their items
module _ {X : Type 0} (w i k h : ℕ) (xs : List X) (fits : i + k ≤ h) (long : h * w ≤ length xs) where
  abbrev pub above : List (List X)
  above = cut_rows w i (take (i * w) xs)

  abbrev pub below : List (List X)
  below = cut_rows w (h - (i + k)) (drop (k * w) (drop (i * w) xs))

  abbrev pub middle : List X
  middle = take (k * w) (drop (i * w) xs)

  rows_parted : (new : List X) → length new ≡ k * w → cut_rows w h (pasted_at (i * w) new xs) ≡ above ++ (cut_rows w k new ++ below)
  rows_parted new wide =
      let all : h ≡ i + (k + (h - (i + k))) = omega arith in
      let front : length (take (i * w) xs) ≡ i * w = length-take-le (i * w) xs (omega (arith, rows_fit i k h w fits)) in
      ap (λ n. cut_rows w n (pasted_at (i * w) new xs)) all ∙ cut_rows-append w i _ (take (i * w) xs) _ front
      ∙ ap (λ l. above ++ l) (cut_rows-append w k _ new _ wide ∙ ap (λ n. cut_rows w k new ++ cut_rows w (h - (i + k)) (drop n (drop (i * w) xs))) wide)

  rows_now : cut_rows w h xs ≡ above ++ (cut_rows w k middle ++ below)
  rows_now =
      let wide : length (take (k * w) (drop (i * w) xs)) ≡ k * w =
      length-take-le (k * w) (drop (i * w) xs) (omega (arith, rows_fit i k h w fits, length-drop (i * w) xs)) in
      ap (λ l. cut_rows w h l) (sym (rw (wide, take-append-drop (k * w) (drop (i * w) xs), take-append-drop (i * w) xs) refl)) ∙ rows_parted middle wide

-- one row is written
cut_rows-set : {X : Type 0} (w n i : ℕ) (row xs : List X) → i < n → length row ≡ w → n * w ≤ length xs → cut_rows w n (pasted_at (i * w) row xs)
    ≡ slice_set (cut_rows w n xs) i row
cut_rows-set w n i row xs within wide fits =
    let more : i + 1 ≤ n = omega arith in
    let one : length row ≡ 1 * w = omega arith in
    rw (rows_parted w i 1 n xs more fits row one, rows_now w i 1 n xs more fits, take_all w row (omega arith))
    (sym (set_at (above w i 1 n xs more fits) _ _ row i (length-cut_rows w i (take (i * w) xs))))

-- one value everywhere
pub cut_rows-replicate : {X : Type 0} (w n : ℕ) (x : X) → cut_rows w n (replicate (n * w) x) ≡ replicate n (replicate w x)
cut_rows-replicate w zero x = refl
cut_rows-replicate w (suc n) x =
    let more : suc n * w ≡ w + n * w = omega (arith, suc-mul n w) in
    let rest : w + n * w - w ≡ n * w = omega arith in
    rw (more, take-replicate w (w + n * w) x (omega arith), drop-replicate w (w + n * w) x, rest, cut_rows-replicate w n x) refl

-- ---- the rows of a place
module _ {X : Type 0} (p : Place) (items : List X) (counted : length items ≡ p.height * p.width) where
  pub FillsPlace-rows_over : IsTilePlace p → FillsPlace p (rows_over p items)
  FillsPlace-rows_over placed = record {
    placed = placed;
    high = length-cut_rows p.width p.height items;
    wide = cut_rows-wide p.width p.height items (omega arith);
  }

  module _ (y start : ℕ) (crossed : HasRow p y) (begins : start ≡ (y - p.top) * p.width) where
    within : y - p.top < p.height
    within = omega (arith, crossed.from_top, crossed.to_bottom)

    -- a row lies within the list
    pub row_fits_in : start + p.width ≤ length items
    row_fits_in = omega (arith, row_fits (y - p.top) p.width p.height p.width within (omega arith))

    pub row_in-rows_over : row_in p (rows_over p items) y ≡ take p.width (drop start items)
    row_in-rows_over = cut_rows-at p.width p.height (y - p.top) items within ∙ ap (λ k. take p.width (drop k items)) (sym begins)

    pub row_read : take (start + p.width - start) (drop start items) ≡ row_in p (rows_over p items) y
    row_read = ap (λ n. take n (drop start items)) {x = start + p.width - start} {y = p.width} (omega arith) ∙ sym row_in-rows_over

-- the list of a Vec is as long as before, whatever was left of what it lent
pub vec_counted : {X : Type 0} {n : ℕ} (v : Vec X) (left : List X) → length v.items ≡ n → length (with_items v left).items ≡ n
vec_counted v left counted = sym (with_items v left).ok.0 ∙ v.ok.0 ∙ counted

-- a row of the list of a Vec was lent and left
module _ {X : Type 0} (p : Place) (v : Vec X) (counted : length v.items ≡ p.height * p.width) (y start : ℕ) (crossed : HasRow p y)
    (begins : start ≡ (y - p.top) * p.width) (left : List X) where
  abbrev lent : List X
  lent = take p.width (drop start v.items)

  abbrev full : List X
  full = refill p.width lent left

  pub vec_rows_left : rows_over p (with_items v (part_left v.items start (start + p.width) left)).items
      ≡ with_row_in p (rows_over p v.items) y (refill (length (row_in p (rows_over p v.items) y)) (row_in p (rows_over p v.items) y) left)
  vec_rows_left =
      let within : start + p.width ≤ length v.items = row_fits_in p v.items counted y start crossed begins in
      let lent_long : length lent ≡ p.width = length-take-le p.width (drop start v.items) (omega (arith, within, length-drop start v.items)) in
      let full_long : length full ≡ p.width = sym (length_refill p.width lent left (sym lent_long)) in
      let width : start + p.width - start ≡ p.width = omega arith in
      let part_is : part_left v.items start (start + p.width) left ≡ pasted_at start full v.items = rw (width, full_long) refl in
      let long : length (pasted_at start full v.items) ≡ v.len = length-pasted_at start full v.items (omega (arith, within)) ∙ sym v.ok.0 in
      let row_is : row_in p (rows_over p v.items) y ≡ lent = row_in-rows_over p v.items counted y start crossed begins in
      rw (row_is, lent_long) (ap (λ l. rows_over p (with_items v l).items) part_is
      ∙ ap (λ l. rows_over p l) (with_items_is v (pasted_at start full v.items) long ∙ ap (λ i. pasted_at i full v.items) begins)
      ∙ cut_rows-set p.width p.height (y - p.top) full v.items (omega arith) full_long (omega arith))

-- ---- several rows are written
pub rows_within : (p : Place) (size y start count n : ℕ) → size ≡ p.height * p.width → p.top ≤ y → y + count ≤ p.top + p.height
    → start ≡ (y - p.top) * p.width → n ≡ count * p.width → start + n ≤ size
rows_within p size y start count n counted low high begins wide = omega (arith, rows_fit (y - p.top) count p.height p.width (omega arith))

-- rows in the place of as many others are those, set one after another
rows_set : (p : Place) (depths : List (List ℕ)) (deep : Bool) (y : ℕ) (front old new back : List (List Colour)) → p.top ≤ y → length front ≡ y - p.top
    → length old ≡ length new → of_rows p (front ++ (new ++ back)) depths deep ≡ with_rows_from (of_rows p (front ++ (old ++ back)) depths deep) y new
rows_set p depths deep y front [] [] back low at same = refl
rows_set p depths deep y front [] (n ∷ new) back low at same = absurd (omega arith)
rows_set p depths deep y front (o ∷ old) [] back low at same = absurd (omega arith)
rows_set p depths deep y front (o ∷ old) (n ∷ new) back low at same =
    let next : length (front ++ o ∷ []) ≡ y + 1 - p.top = omega (arith, length-append front (o ∷ [])) in
    ap (λ rows. of_rows p rows depths deep) (sym (set_at front o (new ++ back) n (y - p.top) at) ∙ ap (λ l. slice_set l (y - p.top) n)
    (sym (append_assoc front (o ∷ []) (new ++ back))))
    ∙ ap (λ t. with_row t y n) (rows_set p depths deep (y + 1) (front ++ o ∷ []) old new back (omega arith) next (omega arith)
    ∙ ap (λ rows. with_rows_from (of_rows p rows depths deep) (y + 1) new) (append_assoc front (o ∷ []) (old ++ back)))

pub put_rows_is : (p : Place) (items : List Colour) (depths : List (List ℕ)) (deep : Bool) (y start count : ℕ) (new : List Colour)
    → length items ≡ p.height * p.width → p.top ≤ y → y + count ≤ p.top + p.height
    → start ≡ (y - p.top) * p.width → length new ≡ count * p.width
    → of_rows p (rows_over p (pasted_at start new items)) depths deep
    ≡ with_rows_from (of_rows p (rows_over p items) depths deep) y (cut_rows p.width count new)
put_rows_is p items depths deep y start count new counted low high begins wide =
    let w : ℕ = p.width in
    let within : y - p.top + count ≤ p.height = omega arith in
    let long : p.height * p.width ≤ length items = omega arith in
    rw (begins, rows_parted w (y - p.top) count p.height items within long new wide, rows_now w (y - p.top) count p.height items within long)
    (rows_set p depths deep y _ _ _ _ low (length-cut_rows w (y - p.top) _) (length-cut_rows w count _ ∙ sym (length-cut_rows w count new)))

-- ---- a tile's fields
pub FillsPlace-flat : {X : Type 0} (p : Place) (value : X) → IsTilePlace p → FillsPlace p (flat_over p value)
FillsPlace-flat p value placed = record {
  placed = placed;
  high = length-replicate p.height (replicate p.width value);
  wide = All-replicate (λ row. length row ≡ p.width) p.height (replicate p.width value) (length-replicate p.width value);
}

-- what is listed, or one value everywhere
pub FillsPlace-shown : {X : Type 0} (p : Place) (made : Bool) (items : List X) (value : X) → IsTilePlace p → (made ≡ true → length items ≡ p.height * p.width)
    → FillsPlace p (if made then rows_over p items else flat_over p value)
FillsPlace-shown p true items value placed counted = FillsPlace-rows_over p items (counted refl) placed
FillsPlace-shown p false items value placed counted = FillsPlace-flat p value placed

pub IsTile-filled : (p : Place) (made deep : Bool) (colours : List Colour) (depths : List ℕ) (colour : Option Colour) (depth : Option ℕ)
    → IsTile p made deep colours depths colour depth
    → IsTileImage
    (record {
      place = p;
      rows = rows_shown made p colours colour fresh;
      depths = rows_shown (made && deep) p depths depth 65535;
      made = made;
      deep = deep;
    })
IsTile-filled p made deep colours depths colour depth i = record {
  colours = FillsPlace-shown p made colours (unwrap_or colour fresh) i.placed i.counted;
  depths = FillsPlace-shown p (made && deep) depths (unwrap_or depth 65535) i.placed i.deep_counted;
}

-- one value everywhere
pub rows_flat : {X : Type 0} (p : Place) (items : List X) (value : X) → items ≡ replicate (p.height * p.width) value → rows_over p items ≡ flat_over p value
rows_flat p items value same = ap (λ l. rows_over p l) same ∙ cut_rows-replicate p.width p.height value

-- the same, whether it is listed or not
pub shown_flat : {X : Type 0} (p : Place) (made : Bool) (items : List X) (value : X) → (made ≡ true → items ≡ replicate (p.height * p.width) value)
    → (if made then rows_over p items else flat_over p value) ≡ flat_over p value
shown_flat p true items value same = rows_flat p items value (same refl)
shown_flat p false items value same = refl

-- all items were given one value
module _ {X : Type 0} (p : Place) (made : Bool) (old new : List X) (value : X) (counted : made ≡ true → length old ≡ p.height * p.width)
    (filled : new ≡ replicate (length old) value) where
  pub counted_filled : made ≡ true → length new ≡ p.height * p.width
  counted_filled is = ap length filled ∙ length-replicate (length old) value ∙ counted is

  pub shown_filled : (if made then rows_over p new else flat_over p value) ≡ flat_over p value
  shown_filled = shown_flat p made new value (λ is. filled ∙ ap (λ n. replicate n value) (counted is))

-- ---- several rows are read
module _ {X : Type 0} (p : Place) (items : List X) (y start count end : ℕ) (counted : length items ≡ p.height * p.width) (low : p.top ≤ y)
    (high : y + count ≤ p.top + p.height) (begins : start ≡ (y - p.top) * p.width) (ends : end ≡ (y + count - p.top) * p.width) where
  pub strip_ends : end ≡ start + count * p.width
  strip_ends = let at : y + count - p.top ≡ y - p.top + count = omega arith in ends ∙ rw (at, begins) (add-mul (y - p.top) count p.width)

  pub strip_within : end ≤ length items
  strip_within = omega (arith, strip_ends, rows_within p (length items) y start count (count * p.width) counted low high begins refl)

  abbrev strip : List X
  strip = take (end - start) (drop start items)

  pub length_strip : length strip ≡ count * p.width
  length_strip = length-take-le (end - start) (drop start items) (omega (arith, strip_within, length-drop start items)) ∙ omega (arith, strip_ends)

  pub strip_row : (n : ℕ) → n < count → row_cut p.width n strip ≡ row_in p (rows_over p items) (y + n)
  strip_row n below =
      let w : ℕ = p.width in
      let fits : n * w + w ≤ count * w = row_fits n w count w below (omega arith) in
      let more : ℕ = count * w - n * w in
      let at : (y + n - p.top) * w ≡ start + n * w =
      ap (λ k. k * w) {x = y + n - p.top} {y = y - p.top + n} (omega arith) ∙ add-mul (y - p.top) n w ∙ ap (λ k. k + n * w) (sym begins) in
      ap (λ k. take w (drop (n * w) (take k (drop start items)))) {x = end - start} {y = n * w + more} (omega (arith, strip_ends, fits))
      ∙ ap (λ l. take w l) (drop-take (n * w) more (drop start items))
      ∙ take-take w more (drop (n * w) (drop start items)) (omega (arith, fits))
      ∙ ap (λ l. take w l) (drop-drop (n * w) start items ∙ ap (λ k. drop k items) (sym at))
      ∙ sym (cut_rows-at w p.height (y + n - p.top) items (omega arith))

-- rows that are all of one value are so many of it
pub rows_alike : {X : Type 0} (w n : ℕ) (xs : List X) (x : X) → length xs ≡ n * w → ((k : ℕ) → k < n → row_cut w k xs ≡ replicate w x)
    → xs ≡ replicate (length xs) x
rows_alike w zero [] x long same = refl
rows_alike w zero (y ∷ xs) x long same = absurd (omega (arith, long, zero-mul w))
rows_alike w (suc n) xs x long same =
    let more : suc n * w ≡ n * w + w = suc-mul n w in
    let rest : length (drop w xs) ≡ n * w = omega (arith, long, more, length-drop w xs) in
    let later : (k : ℕ) → k < n → row_cut w k (drop w xs) ≡ replicate w x =
    λ k below. ap (λ l. take w l) (drop-drop (k * w) w xs ∙ ap (λ m. drop m xs) {x = w + k * w} {y = suc k * w} (omega (arith, suc-mul k w)))
    ∙ same (suc k) (omega arith) in
    sym (take-append-drop w xs)
    ∙ ap (λ l. l ++ drop w xs) (ap (λ k. take w (drop k xs)) (sym (zero-mul w)) ∙ same 0 (omega arith))
    ∙ ap (λ l. replicate w x ++ l) (rows_alike w n (drop w xs) x rest later)
    ∙ replicate-append-replicate w (length (drop w xs)) x
    ∙ ap (λ k. replicate k x) {x = w + length (drop w xs)} {y = length xs} (omega (arith, rest, long, more))
