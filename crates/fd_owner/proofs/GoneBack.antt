-- An owner that goes back.
use Rattle.fd_undo.specs.Frame.{FitDepths}
use Rattle.std.proofs.Common.{◌≡◌, true, false, ℕ, ◌≤◌, List, [], ◌∷◌, ◌++◌, length, take, drop, refl, sym, ap, ◌∙◌, arith}
use Rattle.std.proofs.lemmas.List.{length-take, take-append-drop}
use Rattle.std.proofs.lemmas.List.Elements.{All-take}
use Rattle.fd_tile.specs.Tile.{TileImage, painted, fresh_pixel, pixels_of}
use Rattle.fd_tile.specs.Place.{over_place}
use Rattle.fd_undo.specs.Frame.{KeptPixel, all_restored, IsAlike}
use Rattle.fd_undo.specs.Undo.{Undo, without_room}
use Rattle.fd_undo.proofs.Restored.{Inside}
use Rattle.fd_undo.proofs.Backs.{all_restored-append, all_restored-place}
use Rattle.fd_owner.specs.History.{first_frames}
use Rattle.fd_owner.specs.Owner.{frames_seen, history_of, IsOwner, OpensFresh}
use Rattle.fd_owner.proofs.Pictures.{opened, pixels_painted}

-- the older frames are seen as before, on the tile with the younger ones put back
frames_seen-below : (low high : List (List KeptPixel)) (t : TileImage) → frames_seen (all_restored high t) low ≡ take (length low) (frames_seen t (low ++ high))
frames_seen-below [] high t = refl
frames_seen-below (f ∷ low) high t =
    rw (all_restored-place high t, all_restored-append low high t, frames_seen-below low high t) refl

module _ (t t' : TileImage) (u u' : Undo) (to : ℕ) (few : to ≤ length u.frames) (undone : t' ≡ all_restored (drop to u.frames) t)
    (left : u'.frames ≡ take to u.frames) where
  abbrev low : List (List KeptPixel)
  low = take to u.frames

  abbrev high : List (List KeptPixel)
  high = drop to u.frames

  parts : u.frames ≡ take to u.frames ++ drop to u.frames
  parts = sym (take-append-drop to u.frames)

  size : length (take to u.frames) ≡ to
  size = omega (arith, length-take to u.frames, few)

  pub history_of-back : history_of t' u' ≡ first_frames to (history_of t u)
  history_of-back = grind (arith, frames_seen-below, all_restored-append, size, take-append-drop)

  pub placed : t'.place ≡ t.place
  placed = ap (λ v. v.place) undone ∙ all_restored-place high t

  pub IsOwner-back : t'.made ≡ t.made → t'.deep ≡ t.deep → IsOwner t u → IsOwner t' u'
  IsOwner-back made deep owner = record {
    depths = rw (left, deep) (All-take (λ frame. FitDepths t.deep frame) to u.frames owner.depths);
    inside = rw (left, placed) (All-take (λ frame. Inside t.place frame) to u.frames owner.inside);
    alike = λ not. rw (left, placed) (All-take (λ frame. IsAlike t.place frame) to u.frames (owner.alike (sym made ∙ not)));
    fits = omega (arith, owner.fits, ap length left, size, few);
  }

-- ---- at once to the start, where nothing was drawn on the tile
module _ (t t' : TileImage) (u u' : Undo) (blank : t' ≡ record (painted t.place (λ _ _. fresh_pixel)) { made = false; deep = false })
    (cleared : u' ≡ without_room u.opens_fresh []) where
  pub IsOwner-renewed : IsOwner t' u'
  IsOwner-renewed = grind arith

  opening : pixels_of t' ≡ over_place t.place (λ _ _. fresh_pixel)
  opening = ap pixels_of blank ∙ pixels_painted t.place (λ _ _. fresh_pixel)

  pub OpensFresh-renewed : OpensFresh t' u'
  OpensFresh-renewed = λ _. rw cleared (opening ∙ rw blank refl)

  pub history_of-renewed : OpensFresh t u → u.opens_fresh ≡ true → history_of t' u' ≡ first_frames 0 (history_of t u)
  history_of-renewed fresh told = rw cleared (ap (λ rows. opened rows []) (opening ∙ sym (fresh told)))
