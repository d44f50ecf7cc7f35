-- An owner that forgets what its events overwrote, and how its history goes on.
use Rattle.std.proofs.Common.{Bool}
use Rattle.fd_undo.specs.Frame.{FitDepths}
use Rattle.fd_undo.proofs.Restored.{fit-nothing}
use Rattle.std.proofs.Common.{◌≡◌, ℕ, zero, suc, List, [], ◌∷◌, refl, ◌∙◌, arith, inl}
use Rattle.std.specs.Prelude.{map, All}
use Rattle.std.proofs.lemmas.List.{length-map}
use Rattle.std.proofs.lemmas.List.Elements.{All-nil, All-cons}
use Rattle.fd_tile.specs.declared.place.Place.{Place}
use Rattle.fd_tile.specs.Place.{Holds}
use Rattle.fd_tile.specs.Tile.{Pixel, TileImage, pixels_of}
use Rattle.fd_undo.specs.Frame.{all_restored, KeptPixel, IsAlike}
use Rattle.fd_undo.specs.Undo.{Undo}
use Rattle.fd_undo.proofs.Restored.{Inside}
use Rattle.fd_events.specs.Table.{Table}
use Rattle.fd_owner.specs.History.{Frame, History, position, last_or, last_image, extend_by, frame_without_kept, without_past}
use Rattle.fd_owner.specs.Owner.{frames_seen, history_of, IsOwner}
use Rattle.fd_owner.proofs.Histories.{position_extend_by, last_extend}
use Rattle.fd_owner.proofs.Pictures.{last-frames_seen}

-- ---- empty frames

abbrev emptied : List (List KeptPixel) → List (List KeptPixel)
emptied frames = map (λ _. []) frames

all_restored-emptied : (frames : List (List KeptPixel)) (t : TileImage) → all_restored (emptied frames) t ≡ t
all_restored-emptied [] t = refl
all_restored-emptied (f ∷ frames) t = all_restored-emptied frames t

frames_seen-emptied : (t : TileImage) (frames : List (List KeptPixel)) → frames_seen t (emptied frames) ≡ map (λ _. frame_without_kept t.place (pixels_of t))
    (frames_seen t frames)
frames_seen-emptied t [] = refl
frames_seen-emptied t (f ∷ frames) = rw (all_restored-emptied frames t, frames_seen-emptied t frames) refl

pub history_of-emptied : (t : TileImage) (u u' : Undo) → u'.frames ≡ emptied u.frames → history_of t u' ≡ without_past t.place (history_of t u)
history_of-emptied t u u' is = rw (is, all_restored-emptied u.frames t, frames_seen-emptied t u.frames, last-frames_seen t u.frames) refl

inside-emptied : (p : Place) (frames : List (List KeptPixel)) → All (λ frame. Inside p frame) (emptied frames)
inside-emptied p [] = All-nil (λ frame. Inside p frame)
inside-emptied p (f ∷ frames) = All-cons (λ frame. Inside p frame) [] (emptied frames) (All-nil (λ (k : KeptPixel). Holds p k.x k.y)) (inside-emptied p frames)

alike-emptied : (p : Place) (frames : List (List KeptPixel)) → All (λ frame. IsAlike p frame) (emptied frames)
alike-emptied p [] = All-nil (λ frame. IsAlike p frame)
alike-emptied p (f ∷ frames) = All-cons (λ frame. IsAlike p frame) [] (emptied frames) (inl refl) (alike-emptied p frames)

depths-emptied : (deep : Bool) (frames : List (List KeptPixel)) → All (λ frame. FitDepths deep frame) (emptied frames)
depths-emptied deep [] = All-nil (λ frame. FitDepths deep frame)
depths-emptied deep (f ∷ frames) = All-cons (λ frame. FitDepths deep frame) [] (emptied frames) (fit-nothing deep) (depths-emptied deep frames)

pub IsOwner-emptied : (t : TileImage) (u u' : Undo) → u'.frames ≡ emptied u.frames → IsOwner t u → IsOwner t u'
IsOwner-emptied t u u' is owner = record {
  inside = rw is (inside-emptied t.place u.frames);
  depths = rw is (depths-emptied t.deep u.frames);
  alike = λ _. rw is (alike-emptied t.place u.frames);
  fits = rw is (simp length-map owner.fits);
}

-- ---- a history without its past

pub position-without_past : (place : Place) (h : History) → position (without_past place h) ≡ position h
position-without_past place h = length-map h.frames (λ (f : Frame). frame_without_kept place (last_image h))

last_or-same : (place : Place) (image : List (List Pixel)) (fs : List Frame) → last_or image (map (λ _. frame_without_kept place image) fs) ≡ image
last_or-same place image [] = refl
last_or-same place image (f ∷ fs) = last_or-same place image fs

pub last-without_past : (place : Place) (h : History) → last_image (without_past place h) ≡ last_image h
last-without_past place h = last_or-same place (last_image h) h.frames

-- what a history shows further on rests on its position and on what it shows alone
pub last_extend_by : (table : Table) (place : Place) (count : ℕ) (h g : History) → position h ≡ position g → last_image h ≡ last_image g
    → last_image (extend_by table place count h) ≡ last_image (extend_by table place count g)
last_extend_by table place zero h g at same = same
last_extend_by table place (suc count) h g at same =
    let h' : History = extend_by table place count h in
    let g' : History = extend_by table place count g in
    let at' : position h' ≡ position g' = omega (arith, position_extend_by table place count h, position_extend_by table place count g, at) in
    last_extend table place h' ∙ rw (at', last_extend_by table place count h g at same, last_extend table place g') refl
