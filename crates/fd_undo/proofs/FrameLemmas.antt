-- The newest of a list, the pixels of frames, and colours beside their depths.
use Rattle.std.proofs.Common.{◌≡◌, ℕ, zero, suc, ◌+◌, ◌-◌, ◌*◌, ◌<◌, List, [], ◌∷◌, ◌++◌, length, get_or, refl, sym, ap, ◌∙◌, arith}
use Rattle.std.proofs.Common.{length-append, length-drop, drop}
use Rattle.std.proofs.Math.Nat.{zero-mul, suc-mul}
use Rattle.std.proofs.lemmas.List.{take_at, get_or_push, take_all, length_push, take_more}
use Rattle.std.proofs.lemmas.List.Sums.{sum_by-cons}
use Rattle.std.proofs.lemmas.List.{length-take-le}
use Rattle.std.proofs.lemmas.Nat.{row_fits}
use Rattle.fd_blend.specs.declared.channel.Colour.{Colour}
use Rattle.fd_tile.specs.declared.place.Place.{Place}
use Rattle.fd_tile.specs.Tile.{Pixel, row_cut}
use Rattle.fd_undo.specs.Frame.{KeptPixel, kept_row, kept_rows, kept_place, top, older}
use Rattle.fd_undo.specs.Block.{others}
use Rattle.fd_undo.specs.Undo.{recorded_in}
use Rattle.std.specs.List.{zip}
use Rattle.std.proofs.lemmas.Slice.Zip.{length-zip}

-- ---- the newest of a list, and the others
module _ {X : Type 0} (xs : List X) where
  pub others-push : (y : X) → others (xs ++ y ∷ []) ≡ xs
  others-push y = take_at xs (y ∷ []) (length (xs ++ y ∷ []) - 1) (omega (arith, length_push xs y))

  pub newest-push : (y d : X) → get_or (xs ++ y ∷ []) (length (xs ++ y ∷ []) - 1) d ≡ y
  newest-push y d = get_or_push xs y d (length (xs ++ y ∷ []) - 1) (omega (arith, length_push xs y))

  pub others-newest : (d : X) → 0 < length xs → xs ≡ others xs ++ get_or xs (length xs - 1) d ∷ []
  others-newest d some = sym (take_all (length xs - 1 + 1) xs (omega arith)) ∙ take_more xs (length xs - 1) d (omega arith)

-- ---- the same of frames
pub older-push : {X : Type 0} (xs : List (List X)) (y : List X) → older (xs ++ y ∷ []) ≡ xs
older-push xs y = others-push xs y

pub top-push : {X : Type 0} (xs : List (List X)) (y : List X) → top (xs ++ y ∷ []) ≡ y
top-push xs y = newest-push xs y []

pub older-top : {X : Type 0} (xs : List (List X)) → 0 < length xs → xs ≡ older xs ++ top xs ∷ []
older-top xs some = others-newest xs [] some

-- ---- how many pixels are kept
pub recorded_in-cons : (f : List KeptPixel) (frames : List (List KeptPixel)) → recorded_in (f ∷ frames) ≡ length f + recorded_in frames
recorded_in-cons f frames = sum_by-cons (λ (ks : List KeptPixel). length ks) f frames

pub length-kept_row : (x y : ℕ) (cs : List Pixel) → length (kept_row x y cs) ≡ length cs
length-kept_row x y [] = refl
length-kept_row x y (c ∷ cs) = ap (λ n. suc n) (length-kept_row (x + 1) y cs)

-- ---- rows one below the other
pub length-kept_rows : (x y n m : ℕ) (pixels : ℕ → List Pixel) → ((row : ℕ) → row < n → length (pixels row) ≡ m) → length (kept_rows x y n pixels) ≡ n * m
length-kept_rows x y zero m pixels long = sym (zero-mul m)
length-kept_rows x y (suc n) m pixels long = grind (arith, length-append, length-kept_row, suc-mul, length-kept_rows x y n m pixels, long n)

pub kept_rows-same : (x y n : ℕ) (pixels others : ℕ → List Pixel) → ((row : ℕ) → row < n → pixels row ≡ others row)
    → kept_rows x y n pixels ≡ kept_rows x y n others
kept_rows-same x y zero pixels others same = refl
kept_rows-same x y (suc n) pixels others same = grind (arith, kept_rows-same x y n pixels others, same n)

pub kept_rows-one : (x y n : ℕ) (pixels : ℕ → List Pixel) → n ≡ 1 → kept_rows x y n pixels ≡ kept_row x y (pixels 0)
kept_rows-one x y n pixels one = rw one (grind arith)

pub length-zip_equal : {A B : Type 0} (xs : List A) (ys : List B) → length ys ≡ length xs → length (zip xs ys) ≡ length xs
length-zip_equal xs ys e = omega (arith, length-zip xs ys)

-- ---- all of a place
module _ {X : Type 0} (p : Place) (xs : List X) (counted : length xs ≡ p.height * p.width) where
  pub length-row_cut : (n : ℕ) → n < p.height → length (row_cut p.width n xs) ≡ p.width
  length-row_cut n below =
      let fits = row_fits n p.width p.height p.width below (omega arith) in
      length-take-le p.width (drop (n * p.width) xs) (omega (arith, fits, length-drop (n * p.width) xs, counted))

pub length-kept_place : (p : Place) (cs : List Colour) (ds : List ℕ) → length cs ≡ p.height * p.width → length ds ≡ length cs
    → length (kept_place p cs ds) ≡ length cs
length-kept_place p cs ds counted equal =
    length-kept_rows p.left p.top p.height p.width (λ n. zip (row_cut p.width n cs) (row_cut p.width n ds))
    (λ n below. let deep = length-row_cut p ds (equal ∙ counted) n below in
    let wide = length-row_cut p cs counted n below in
    length-zip_equal (row_cut p.width n cs) (row_cut p.width n ds) (deep ∙ sym wide) ∙ wide)
    ∙ sym counted
