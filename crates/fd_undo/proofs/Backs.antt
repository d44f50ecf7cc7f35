-- Frames that are put back from the top down, or dropped where an older one rests on no pixel.
use Rattle.std.proofs.Common.{◌≡◌, ℕ, zero, suc, ◌+◌, ◌-◌, ◌<◌, ◌≤◌, ◌∙◌, List, [], ◌∷◌, ◌++◌, length, get_or, take, drop, replicate, refl, sym, subst, ap}
use Rattle.std.proofs.Common.{Option, None, Some, arith, inl, inr, ◌⊎◌, length-drop, append_assoc, length-append, ◌^◌}
use Rattle.std.specs.Prelude.{All, IfSome}
use Rattle.std.proofs.lemmas.List.{drop_more, take_more, drop-append-le, take_all, take-append-drop, length-take}
use Rattle.std.proofs.lemmas.List.{get_or-take, get_or_past, get_or-drop, drop_at, take_at, append-nil}
use Rattle.std.proofs.lemmas.List.Elements.{All-drop}
use Rattle.fd_tile.specs.declared.place.Place.{Place}
use Rattle.fd_tile.specs.Place.{IsTilePlace}
use Rattle.fd_tile.specs.Tile.{TileImage, IsTileImage}
use Rattle.fd_undo.specs.Frame.{KeptPixel, restored, all_restored, KeepsAll}
use Rattle.fd_undo.specs.Block.{KeptFrame, Filled, found, Rise, newest, others}
use Rattle.fd_undo.specs.Stack.{frames_from, stored_in, all_stored, pixels_stored}
use Rattle.fd_undo.proofs.Restored.{Inside, restored-place, restored-made, restored-deep}
use Rattle.fd_undo.proofs.Pixelwise.{IsTileImage-restored, corner, restored-whole}
use Rattle.fd_undo.proofs.StackLemmas.{found-frames, rise-back, block_rise, kept_in_block, kept_in_last, length-frames, frames-grow, Newest, newest_stored}
use Rattle.fd_undo.proofs.RowLemmas.{tail_is}
use Rattle.fd_undo.proofs.KeptAt.{keeps-found}

-- ---- all of some frames put back
pub all_restored-append : (frames more : List (List KeptPixel)) (t : TileImage) → all_restored (frames ++ more) t ≡ all_restored frames (all_restored more t)
all_restored-append [] more t = refl
all_restored-append (f ∷ frames) more t = ap (restored f) (all_restored-append frames more t)

pub all_restored-empty : (n : ℕ) (t : TileImage) → all_restored (replicate n []) t ≡ t
all_restored-empty zero t = refl
all_restored-empty (suc n) t = all_restored-empty n t

pub all_restored-place : (frames : List (List KeptPixel)) (t : TileImage) → (all_restored frames t).place ≡ t.place
all_restored-place [] t = refl
all_restored-place (f ∷ frames) t = restored-place f (all_restored frames t) ∙ all_restored-place frames t

pub all_restored-deep : (frames : List (List KeptPixel)) (t : TileImage) → (all_restored frames t).deep ≡ t.deep
all_restored-deep [] t = refl
all_restored-deep (f ∷ frames) t = restored-deep f (all_restored frames t) ∙ all_restored-deep frames t

pub all_restored-made : (frames : List (List KeptPixel)) (t : TileImage) → (all_restored frames t).made ≡ t.made
all_restored-made [] t = refl
all_restored-made (f ∷ frames) t = restored-made f (all_restored frames t) ∙ all_restored-made frames t

IsTileImage-all_restored : (frames : List (List KeptPixel)) (t : TileImage) → IsTileImage t → All (λ frame. Inside t.place frame) frames
    → IsTileImage (all_restored frames t)
IsTileImage-all_restored [] t filled inside = filled
IsTileImage-all_restored (f ∷ frames) t filled inside =
    IsTileImage-restored f (all_restored frames t)
    (IsTileImage-all_restored frames t filled (λ k d within. inside (suc k) d (omega (arith, within))))
    (rw (all_restored-place frames t) (inside 0 f (omega arith)))

-- ---- what is left of some frames on the way down to a number: stored ones, and how many there are in all
pub record IsLeft (to : ℕ) (frames : List (List KeptPixel)) (stored : List KeptFrame) (count recorded : ℕ) : Type 0 where
  pub rise : Rise 0 stored count
  pub counted : recorded ≡ pixels_stored stored
  pub countable : recorded < 2 ^ 64
  pub least : to ≤ count
  pub parts : frames ≡ frames_from 0 stored count ++ drop count frames

-- frames that keep nothing above others
skipped : (n : ℕ) (gone : List (List KeptPixel)) (t : TileImage) → all_restored (replicate n [] ++ gone) t ≡ all_restored gone t
skipped n gone t = all_restored-append (replicate n []) gone t ∙ all_restored-empty n (all_restored gone t)

-- the newest stored frame goes, with those above it, which keep nothing
pub record Goes (to : ℕ) (frames : List (List KeptPixel)) (full : List Filled) (last : Filled) (count recorded : ℕ) : Type 0 where
  pub fewer : (newest last.frames).number < count
  pub left : IsLeft to frames (stored_in full ++ others last.frames) (newest last.frames).number (recorded - length (newest last.frames).kept)
  pub gone : (t : TileImage) → all_restored (drop (newest last.frames).number frames) t
      ≡ restored (newest last.frames).kept (all_restored (drop count frames) t)
  pub within : (newest last.frames).number < length frames
  pub own : (newest last.frames).kept ≡ get_or frames (newest last.frames).number []

pub goes : {to : ℕ} {frames : List (List KeptPixel)} {stored : List KeptFrame} {count recorded : ℕ} (full : List Filled) (last : Filled)
    → IsLeft to frames stored count recorded → all_stored full last ≡ stored → (0 < length last.frames) × (to ≤ (newest last.frames).number)
    → Goes to frames full last count recorded
goes {to = to} {frames = frames} {count = count} full last is same some =
    let n : ℕ = (newest last.frames).number in
    let t : Newest (stored_in full) last.frames count = newest_stored (stored_in full) last.frames count some.0 (rw same is.rise) in
    let size = length-frames 0 (stored_in full ++ others last.frames) n t.rise in
    grind (arith, size, append_assoc, take_at, drop_at, take-append-drop n frames, skipped, get_or-drop n frames 0 [], length-drop n frames)

-- no frame from the number on is stored
module _ (to : ℕ) (frames : List (List KeptPixel)) (stored : List KeptFrame) (count recorded : ℕ) (is : IsLeft to frames stored count recorded)
    (rise : Rise 0 stored to) where
  pub end_frames : take to frames ≡ frames_from 0 stored to
  end_frames = grind (arith, frames-grow 0 stored to count rise is.least, length-frames 0 stored to rise, append_assoc, take_at)

  pub end_tile : (t : TileImage) → all_restored (drop to frames) t ≡ all_restored (drop count frames) t
  end_tile t = grind (arith, frames-grow 0 stored to count rise is.least, length-frames 0 stored to rise, append_assoc, drop_at, skipped)

-- frames above one that keeps the whole place may be dropped unread
pub back-whole : (to : ℕ) (frames left : List (List KeptPixel)) (t : TileImage) → left ≡ take (length left) frames
    → (length left ≡ length frames) ⊎ ((n : ℕ) × (to ≤ n) × (length left ≡ n + 1) × KeepsAll t.place (get_or frames n []))
    → IsTileImage t → All (λ frame. Inside t.place frame) frames → all_restored (drop to left) t ≡ all_restored (drop to frames) t
back-whole to frames left t front (inl size) filled inside = grind (arith, take_all)
back-whole to frames left t front (inr whole) filled inside =
    let n : ℕ = whole.0 in
    let gone : List (List KeptPixel) = drop (n + 1) frames in
    let within : n < length frames = omega (arith, ap length front, length-take (length left) frames, whole.2) in
    let one = restored-whole (get_or frames n []) t (all_restored gone t) (all_restored-place gone t) (all_restored-made gone t)
    (all_restored-deep gone t) filled
    (IsTileImage-all_restored gone t filled (All-drop (λ frame. Inside t.place frame) (n + 1) frames inside)) (inside n [] within) whole.3 in
    let cut = take-append-drop n frames in
    grind (arith, one, cut, take_more frames n [] within, drop_more frames n [] within, drop-append-le, all_restored-append, length-take)

-- a stored frame that is found to keep a whole place is one of all frames
pub whole_frame : (stored : List KeptFrame) (count : ℕ) (frames : List (List KeptPixel)) (from : ℕ) (p : Place) (r : Option ℕ) → Rise 0 stored count
    → frames_from 0 stored count ≡ frames → IsTilePlace p → IfSome r (λ n. (from ≤ n) × KeepsAll p (found n stored))
    → IfSome r (λ n. (from ≤ n) × (n < length frames) × KeepsAll p (get_or frames n []))
whole_frame stored count frames from p None rise shown placed whole = tt
whole_frame stored count frames from p (Some n) rise shown placed whole =
    let is : get_or frames n [] ≡ found n stored = grind (arith, found-frames 0 stored count n rise) in
    let some = whole.1 p.left p.top (corner p placed) in
    (whole.0, grind (arith, get_or_past), rw is whole.1)

-- ---- what the goals of a function want, which names it in its attribute
pub ruleset stack_oldest_whole_steps = (length-drop, get_or-drop, tail_is, rise-back, block_rise, kept_in_block, kept_in_last, keeps-found)

pub ruleset stack_walk_steps = (end_frames, end_tile)

pub ruleset stack_undo_to_steps = (back-whole)
