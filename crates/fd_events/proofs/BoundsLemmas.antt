-- Boxes round triangles.
use Rattle.std.proofs.Common.{◌≡◌, Bool, ℕ, zero, suc, ◌+◌, ◌-◌, ◌*◌, ◌<◌, ◌≤◌, min, true, false, IsTrue, ◌⊎◌, inl, inr, List, [], ◌∷◌}
use Rattle.std.proofs.Common.{◌++◌, length, take, drop, Option, Some, None, slice_get, option_map, arith, refl, sym, ap, ◌∙◌}
use Rattle.std.specs.Prelude.{◌&&◌}
use Rattle.std.proofs.lemmas.Bool.{both_ways, false_from_ne_true, or_left, or_right}
use Rattle.std.proofs.lemmas.Option.{slice_get_cases, slice_get_within}
use Rattle.std.proofs.lemmas.Bool.Decides.{nat_tests}
use Rattle.fd_cover.specs.declared.bounds.Bounds.{Bounds}
use Rattle.fd_cover.specs.declared.shading.Interp.{Interp}
use Rattle.fd_cover.specs.declared.triangle.Tri.{Tri}
use Rattle.fd_cover.specs.Bounds.{is_within, HoldsCovered, HoldsBoth, bounds_of, joined_box}
use Rattle.fd_cover.specs.Covers.{covers}
use Rattle.fd_cover.proofs.BoundsLemmas.{bounds_of-holds}
use Rattle.fd_events.specs.declared.pipeline.Pipeline.{Pipeline}
use Rattle.fd_events.specs.Limits.{group_size}
use Rattle.fd_events.specs.Bounds.{AreBoxesOf, HoldsTriangles, HoldsGroup, IsTriangleBox, triangles_between}
use Rattle.fd_events.specs.Bounds.{joined_with, bounds_of_triangles, may_colour, IsRound, CoverNone}
use Rattle.fd_events.specs.Draw.{DrawList, Triangle, triangles_of}
use Rattle.fd_cover.specs.Verdict.{verdict_at}
use Rattle.fd_events.specs.Image.{is_discarded, Pixel, is_drawn, pixel_after_triangles, kept_by_triangles}
use Rattle.fd_events.specs.Picture.{Painting, clipped_to, is_inside, is_on, texel}
use Rattle.fd_events.proofs.Triangles.{picture_at}

-- ---- the box round triangles holds what they cover

joined_box-holds : (a b : Bounds) → HoldsBoth (joined_box a b) a b
unfolding joined_box
joined_box-holds a b x y h = grind (arith, nat_tests)

joined_with-keeps : (ts : List Triangle) (box : Bounds) (x y : ℕ) → is_within box x y ≡ true → is_within (joined_with box ts) x y ≡ true
joined_with-keeps [] box x y h = h
joined_with-keeps (t ∷ ts) box x y h =
    joined_with-keeps ts (joined_box box (bounds_of t.corners)) x y
    (joined_box-holds box (bounds_of t.corners) x y (or_left (is_within box x y) (is_within (bounds_of t.corners) x y) h))

joined_with-holds : (ts : List Triangle) (box : Bounds) → HoldsTriangles (joined_with box ts) ts
joined_with-holds [] box i t at = cc
joined_with-holds (first ∷ ts) box zero t at = λ x y covered.
    let same : first ≡ t = cc in
    let own : is_within (bounds_of first.corners) x y ≡ true = bounds_of-holds first.corners x y (rw same covered) in
    joined_with-keeps ts (joined_box box (bounds_of first.corners)) x y
    (joined_box-holds box (bounds_of first.corners) x y (or_right (is_within box x y) (is_within (bounds_of first.corners) x y) own))
joined_with-holds (first ∷ ts) box (suc i) t at = joined_with-holds ts (joined_box box (bounds_of first.corners)) i t at

pub bounds_of_triangles-holds : (ts : List Triangle) → HoldsTriangles (bounds_of_triangles ts) ts
bounds_of_triangles-holds ts = joined_with-holds ts (record { left = 0; top = 0; right = 0; bottom = 0 })

-- ---- one triangle more

joined_with-next : (ts : List Triangle) (k : ℕ) (corners : Tri) (box : Bounds) → option_map (λ (u : Triangle). u.corners) (slice_get ts k) ≡ Some corners
    → joined_with box (take (suc k) ts) ≡ joined_box (joined_with box (take k ts)) (bounds_of corners)
joined_with-next [] k corners box next = cc
joined_with-next (first ∷ ts) zero corners box next = let same : first.corners ≡ corners = cc in rw (← same) refl
joined_with-next (first ∷ ts) (suc k) corners box next = joined_with-next ts k corners (joined_box box (bounds_of first.corners)) next

-- ---- groups of triangles

slice_get-drop : {X : Type 0} (xs : List X) (m i : ℕ) → slice_get (drop m xs) i ≡ slice_get xs (m + i)
slice_get-drop [] zero i = refl
slice_get-drop [] (suc m) i = refl
slice_get-drop (x ∷ xs) zero i = let same : i ≡ 0 + i = omega arith in ap (λ n. slice_get (x ∷ xs) n) same
slice_get-drop (x ∷ xs) (suc m) i = slice_get-drop xs m i ∙ (let further : suc (m + i) ≡ suc m + i = omega arith in ap (λ n. slice_get (x ∷ xs) n) further)

slice_get-take : {X : Type 0} (xs : List X) (n i : ℕ) → i < n → slice_get (take n xs) i ≡ slice_get xs i
slice_get-take xs zero i below = absurd (omega arith)
slice_get-take (x ∷ xs) (suc n) (suc i) below = slice_get-take xs n i (omega arith)
slice_get-take xs n i below = refl

-- the box of the triangles from first on, joined with that of the next one
pub IsRound-further : (ts : List Triangle) (first k : ℕ) (corners : Tri) (before box : Bounds) → first ≤ k
    → option_map (λ (u : Triangle). u.corners) (slice_get ts k) ≡ Some corners → before ≡ bounds_of_triangles (triangles_between first k ts)
    → box ≡ joined_box before (bounds_of corners) → IsRound box (triangles_between first (k + 1) ts)
IsRound-further ts first k corners before box from next so_far is =
    let whole : first + (k - first) ≡ k = omega (arith, from) in
    let at : slice_get (drop first ts) (k - first) ≡ slice_get ts k = slice_get-drop ts first (k - first) ∙ ap (λ n. slice_get ts n) whole in
    let more : k + 1 - first ≡ suc (k - first) = omega (arith, from) in
    let joined = joined_with-next (drop first ts) (k - first) corners (record { left = 0; top = 0; right = 0; bottom = 0 }) (rw at next) in
    let value : box ≡ bounds_of_triangles (triangles_between first (k + 1) ts) = is ∙ rw (so_far, more) (sym joined) in
    record { value = value; covered = rw value (bounds_of_triangles-holds (triangles_between first (k + 1) ts)) }

-- the same by the boxes of all triangles
pub IsRound-joined : (ts : List Triangle) (boxes : List Bounds) (first k : ℕ) (before own box : Bounds) → AreBoxesOf boxes ts → first ≤ k
    → slice_get boxes k ≡ Some own → IsRound before (triangles_between first k ts) → box ≡ joined_box before own
    → IsRound box (triangles_between first (k + 1) ts)
IsRound-joined ts boxes first k before own box are from at so_far is = elim (slice_get_cases ts k).1 [
  | inl found ↦ IsRound-further ts first k found.0.corners before box from
      (ap (option_map (λ (u : Triangle). u.corners)) found.2) so_far.value
      (is ∙ ap (joined_box before) (are.each k own at found.0 found.2).0)
  | inr past ↦ absurd (omega (arith, slice_get_within boxes k own at, are.size, past.0))
]

-- the box round a group holds what its triangles cover
pub HoldsGroup-triangles_between : (ts : List Triangle) (group first last : ℕ) (box : Bounds) → first ≡ group_size * group
    → last ≡ min (first + group_size) (length ts)
    → HoldsTriangles box (triangles_between first last ts) → HoldsGroup box group ts
HoldsGroup-triangles_between ts group first last box is_first is_last holds = λ i t low high at.
    let within : i < length ts = slice_get_within ts i t at in
    let whole : first + (i - first) ≡ i = omega (arith, is_first, low) in
    let below : i - first < last - first = omega (arith, is_first, is_last, low, high, within) in
    let there : slice_get (triangles_between first last ts) (i - first) ≡ Some t =
    slice_get-take (drop first ts) (last - first) (i - first) below ∙ slice_get-drop ts first (i - first) ∙ ap (λ n. slice_get ts n) whole ∙ at in
    holds (i - first) t there

slice_get-last : {X : Type 0} (xs : List X) (x y : X) (i : ℕ) → slice_get (xs ++ x ∷ []) i ≡ Some y → (slice_get xs i ≡ Some y) ⊎ ((i ≡ length xs) × (y ≡ x))
slice_get-last [] x y zero at = inr (refl, cc)
slice_get-last [] x y (suc i) at = absurd (cc)
slice_get-last (z ∷ xs) x y zero at = inl at
slice_get-last (z ∷ xs) x y (suc i) at = elim (slice_get-last xs x y i at) [
  | inl before ↦ inl before
  | inr last ↦ inr (ap suc last.0, last.1)
]

-- what holds of each box holds also with one more
pub each_box : (P : Bounds → ℕ → Type 0) (boxes : List Bounds) (number : ℕ) (box : Bounds) → length boxes ≡ number
    → ((i : ℕ) (found : Bounds) → slice_get boxes i ≡ Some found → P found i) → P box number
    → (i : ℕ) (found : Bounds) → slice_get (boxes ++ box ∷ []) i ≡ Some found → P found i
each_box P boxes number box size each own i found at = elim (slice_get-last boxes box found i at) [
  | inl before ↦ each i found before
  | inr last ↦ let same : i ≡ number = last.0 ∙ size in rw (same, last.1) own
]

-- a triangle's own box
pub IsTriangleBox-own : (ts : List Triangle) (number : ℕ) (corners : Tri) (box : Bounds) → option_map (λ (u : Triangle). u.corners) (slice_get ts number)
    ≡ Some corners
    → box ≡ bounds_of corners → HoldsCovered box corners → IsTriangleBox box number ts
IsTriangleBox-own ts number corners box is value covered = λ t at. let same : t.corners ≡ corners = cc in rw same (value, covered)

-- ---- a pixel at which no triangle may have a colour

-- outside of a picture there is no texel
texel-outside : (picture : Painting) (x y : ℕ) → is_inside picture x y ≡ false → texel picture x y ≡ None
unfolding texel
texel-outside picture x y outside = rw outside refl

pub discarded_outside : (picture : Option Painting) (x y : ℕ) → is_on picture x y ≡ false → is_discarded picture x y ≡ true
discarded_outside None x y outside = absurd (cc)
discarded_outside (Some picture) x y outside = rw (texel-outside picture x y outside) refl

-- nothing is drawn there
pub is_drawn-uncoloured : (t : Triangle) (s : Pipeline) (x y stored : ℕ) → may_colour t x y ≡ false → is_drawn t s x y stored ≡ false
unfolding verdict_at
is_drawn-uncoloured t s x y stored none = by_picture (is_on t.picture x y) refl
  where
    by_picture : (on : Bool) → is_on t.picture x y ≡ on → is_drawn t s x y stored ≡ false
    by_picture false outside = let discarded = discarded_outside t.picture x y outside in grind arith
    by_picture true inside = grind arith

-- it stays as it is
pub pixel_after_triangles-uncoloured : (ts : List Triangle) (interp : Interp) (s : Pipeline) (x y : ℕ) (before : Pixel)
    → ((i : ℕ) (t : Triangle) → slice_get ts i ≡ Some t → may_colour t x y ≡ false)
    → pixel_after_triangles ts interp s x y before ≡ before
pixel_after_triangles-uncoloured [] interp s x y before none = refl
pixel_after_triangles-uncoloured (t ∷ ts) interp s x y before none =
    rw (is_drawn-uncoloured t s x y before.1 (none zero t refl)) (pixel_after_triangles-uncoloured ts interp s x y before (λ i u at. none (suc i) u at))

-- nothing is kept of it
pub kept_by_triangles-uncoloured : (ts : List Triangle) (interp : Interp) (s : Pipeline) (x y : ℕ) (before : Pixel)
    → ((i : ℕ) (t : Triangle) → slice_get ts i ≡ Some t → may_colour t x y ≡ false)
    → kept_by_triangles ts interp s x y before ≡ []
kept_by_triangles-uncoloured [] interp s x y before none = refl
kept_by_triangles-uncoloured (t ∷ ts) interp s x y before none =
    rw (is_drawn-uncoloured t s x y before.1 (none zero t refl)) (kept_by_triangles-uncoloured ts interp s x y before (λ i u at. none (suc i) u at))

-- the part of a box that lies on a picture
pub within_clipped : (picture : Option Painting) (box : Bounds) (x y : ℕ) → is_within (clipped_to picture box) x y ≡ (is_within box x y && is_on picture x y)
within_clipped None box x y = grind arith
within_clipped (Some picture) box x y = grind (arith, nat_tests)

-- outside of it no triangle of a draw may have a colour
pub uncoloured_outside : (d : DrawList) (box : Bounds) (x y : ℕ) → HoldsTriangles box (triangles_of d) → is_within (clipped_to d.picture box) x y ≡ false
    → (i : ℕ) (t : Triangle) → slice_get (triangles_of d) i ≡ Some t → may_colour t x y ≡ false
uncoloured_outside d box x y holds outside i t at = by_cover (covers t.corners x y) refl
  where
    by_cover : (b : Bool) → covers t.corners x y ≡ b → (b && is_on t.picture x y) ≡ false
    by_cover false out = refl
    by_cover true covered =
        let within : is_within box x y ≡ true = holds i t at x y covered in
        let its = picture_at d i t at in
        rw its (rw within at (sym (within_clipped d.picture box x y) ∙ outside))

-- ---- triangles that miss a window

-- a box that holds what they cover has none of the window's pixels
pub CoverNone-apart : (box window : Bounds) (ts : List Triangle) (first last : ℕ) → ((x y : ℕ) → IsTrue (is_within window x y) → is_within box x y ≡ false)
    → ((i : ℕ) (t : Triangle) → first ≤ i → i < last → slice_get ts i ≡ Some t → HoldsCovered box t.corners) → CoverNone window ts first last
CoverNone-apart box window ts first last apart holds i t from to at x y within =
    false_from_ne_true (covers t.corners x y) (λ covered. both_ways (is_within box x y) (apart x y within) (holds i t from to at x y covered))
