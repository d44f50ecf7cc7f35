-- Frames that are put back, pixel by pixel; and those that keep a whole place, which was alike.
use Rattle.std.proofs.lemmas.Bool.Decides.{nat_tests}
use Rattle.std.proofs.lemmas.Grind.{common_steps}
use Rattle.std.proofs.Common.{◌≡◌, ◌+◌, ℕ, Bool, false, List, [], ◌∷◌, refl, arith, zero, suc, ◌*◌, length, replicate, ap, Option, Some, None}
use Rattle.std.specs.Prelude.{slice_get, All, IfSome}
use Rattle.std.proofs.lemmas.List.{get_or-set_same, get_or-set_other, length-replicate, get_or-replicate}
use Rattle.std.proofs.lemmas.List.Elements.{All-nil, All-cons, All-append}
use Rattle.fd_tile.specs.declared.place.Place.{Place}
use Rattle.fd_tile.specs.Place.{Holds, IsTilePlace}
use Rattle.fd_tile.specs.Tile.{Pixel, TileImage, IsTileImage, FillsPlace, value_in, pixel_of, IsFlat, flat_over, with_colours, with_depths}
use Rattle.fd_tile.proofs.Pixels.{length-row_in, row_in-same, row_in-other, rows_ext, row_in-flat}
use Rattle.fd_undo.specs.Frame.{KeptPixel, restored, kept_at, kept_row, kept_rows, alike, IsAlike, FitDepths, KeepsAll}
use Rattle.fd_undo.proofs.Restored.{Inside, restored-place, kept_rows-inside, restored-made, restored-deep}
use Rattle.std.specs.List.{zip}
use Rattle.fd_blend.specs.Channel.{fresh}
use Rattle.fd_tile.proofs.Cut.{FillsPlace-flat}
use Rattle.fd_undo.proofs.FrameLemmas.{length-kept_rows}
use Rattle.fd_undo.proofs.KeptAt.{kept_at-rows_inside, kept_at-inside}

-- the first of some pixels, or d
abbrev pub first_or : List Pixel → Pixel → Pixel
first_or [] d = d
first_or (c ∷ cs) d = c

-- ---- a frame put back
pub IsTileImage-restored : (ks : List KeptPixel) (t : TileImage) → IsTileImage t → Inside t.place ks → IsTileImage (restored ks t)
IsTileImage-restored [] t filled inside = filled
IsTileImage-restored (k ∷ ks) t filled inside =
    let rest = IsTileImage-restored ks t filled (λ i d below. inside (suc i) d (omega (arith, below))) in
    grind (arith, common_steps, length-row_in, inside 0 k (omega arith), restored-place)

-- a pixel becomes the first that the frame keeps of it
pub pixel_of-restored : (ks : List KeptPixel) (t : TileImage) (x y : ℕ) → IsTileImage t → Inside t.place ks → Holds t.place x y
    → pixel_of (restored ks t) x y ≡ first_or (kept_at ks x y) (pixel_of t x y)
pixel_of-restored [] t x y filled inside held = refl
pixel_of-restored (k ∷ ks) t x y filled inside held =
    let rest : Inside t.place ks = λ i d below. inside (suc i) d (omega (arith, below)) in
    let one = pixel_of-restored ks t x y filled rest held in
    grind (arith, nat_tests, inside 0 k (omega arith), IsTileImage-restored, restored-place, row_in-same, row_in-other, get_or-set_same, get_or-set_other)

pub zip-replicate : {X Y : Type 0} (n : ℕ) (x : X) (y : Y) → zip (replicate n x) (replicate n y) ≡ replicate n (x, y)
zip-replicate zero x y = refl
zip-replicate (suc n) x y = ap (λ l. (x, y) ∷ l) (zip-replicate n x y)

-- the same value at each pixel
pub value_in-same : {X : Type 0} (p : Place) (rows : List (List X)) (v other : X) (x y : ℕ) → FillsPlace p rows → IsFlat p rows v → Holds p x y
    → value_in p rows x y other ≡ v
value_in-same p rows v other x y filled flat held = grind (arith, row_in-flat, get_or-replicate)

pub value_in-flat : {X : Type 0} (p : Place) (v other : X) (x y : ℕ) → IsTilePlace p → Holds p x y → value_in p (flat_over p v) x y other ≡ v
value_in-flat p v other x y placed held = grind (arith, get_or-replicate)

-- the depths of a pixel that is kept are those of the frame
pub kept_at-fit : (ks : List KeptPixel) (x y n : ℕ) → All (λ k. k.pixel.1 ≡ 65535) ks → IfSome (slice_get (kept_at ks x y) n) (λ pixel. pixel.1 ≡ 65535)
kept_at-fit [] x y n all = tt
kept_at-fit (k ∷ ks) x y zero all =
    grind (arith, nat_tests, all 0 k (omega arith), kept_at-fit ks x y zero (λ i d below. all (suc i) d (omega (arith, below))))
kept_at-fit (k ∷ ks) x y (suc n) all =
    let rest : All (λ k. k.pixel.1 ≡ 65535) ks = λ i d below. all (suc i) d (omega (arith, below)) in
    grind (arith, nat_tests, kept_at-fit ks x y n rest, kept_at-fit ks x y (suc n) rest)

-- ---- the pixels of such a frame
fit-row : (x y n : ℕ) (q : Pixel) → q.1 ≡ 65535 → All (λ k. k.pixel.1 ≡ 65535) (kept_row x y (replicate n q))
fit-row x y zero q greatest = All-nil (λ (k : KeptPixel). k.pixel.1 ≡ 65535)
fit-row x y (suc n) q greatest =
    All-cons (λ (k : KeptPixel). k.pixel.1 ≡ 65535) (record { x = x; y = y; pixel = q }) (kept_row (x + 1) y (replicate n q)) greatest
    (fit-row (x + 1) y n q greatest)

fit-rows : (x y n w : ℕ) (q : Pixel) → q.1 ≡ 65535 → All (λ k. k.pixel.1 ≡ 65535) (kept_rows x y n (λ _. replicate w q))
fit-rows x y zero w q greatest = All-nil (λ (k : KeptPixel). k.pixel.1 ≡ 65535)
fit-rows x y (suc n) w q greatest =
    All-append (λ (k : KeptPixel). k.pixel.1 ≡ 65535) (kept_rows x y n (λ _. replicate w q)) (kept_row x (y + n) (replicate w q))
    (fit-rows x y n w q greatest) (fit-row x (y + n) w q greatest)

module _ (p : Place) (q : Pixel) where
  pub length-alike : length (alike p q) ≡ p.height * p.width
  length-alike = length-kept_rows p.left p.top p.height p.width (λ _. replicate p.width q) (λ _ _. length-replicate p.width q)

  -- the depths of such a frame
  pub fit-alike : (deep : Bool) → (deep ≡ false → q.1 ≡ 65535) → FitDepths deep (alike p q)
  fit-alike deep greatest = record { greatest = λ not. fit-rows p.left p.top p.height p.width q (greatest not) }

  pub Inside-alike : Inside p (alike p q)
  Inside-alike = kept_rows-inside p p.left p.top p.height p.width (λ _. replicate p.width q) (omega arith) (omega arith) (omega arith) (omega arith)
      (λ _ _. length-replicate p.width q)

  pub kept_at-alike : (x y : ℕ) → Holds p x y → kept_at (alike p q) x y ≡ q ∷ []
  kept_at-alike x y held = grind (arith, length-replicate, kept_at-rows_inside, kept_at-inside, get_or-replicate)

-- ---- such a frame put back
-- images of one place with the same pixels
image_ext : (r s : TileImage) → r.place ≡ s.place → r.made ≡ s.made → r.deep ≡ s.deep → IsTileImage r → IsTileImage s
    → ((x y : ℕ) → Holds s.place x y → pixel_of r x y ≡ pixel_of s x y) → r ≡ s
image_ext r s place made deep filled full same = grind (arith, rows_ext s.place r.rows s.rows fresh, rows_ext s.place r.depths s.depths 65535)

ruleset frame_back = (restored-place, restored-made, restored-deep, IsTileImage-restored, pixel_of-restored)

-- what a frame gives that keeps each pixel rests on no pixel of the tile
pub restored-whole : (ks : List KeptPixel) (t s : TileImage) → s.place ≡ t.place → s.made ≡ t.made → s.deep ≡ t.deep → IsTileImage t
    → IsTileImage s → Inside t.place ks → KeepsAll t.place ks → restored ks t ≡ restored ks s
restored-whole ks t s place made deep filled full inside all = grind (arith, image_ext (restored ks t) (restored ks s), frame_back)

-- ---- the first pixel tells what such a frame keeps
pub corner : (p : Place) → IsTilePlace p → Holds p p.left p.top
corner p placed = grind arith

-- the tile with all pixels so, where one is given
abbrev pub made_alike : Option Pixel → TileImage → TileImage
made_alike None t = t
made_alike (Some q) t = with_depths (with_colours t q.0) q.1

pub restored_as_read : (t : TileImage) (frame : List KeptPixel) → IsTileImage t → IsAlike t.place frame
    → restored frame t ≡ made_alike (slice_get (kept_at frame t.place.left t.place.top) 0) t
restored_as_read t frame filled is =
    let all = made_alike (slice_get (kept_at frame t.place.left t.place.top) 0) t in
    grind (arith, image_ext (restored frame t) all, frame_back, Inside-alike, FillsPlace-flat, kept_at-alike, value_in-flat, corner)
