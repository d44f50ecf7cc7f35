-- Two tables whose events do the same on a place give it the same history.
use Rattle.std.proofs.Common.{◌≡◌, ℕ, zero, suc, ◌<◌, ◌≤◌, List, [], ◌∷◌, ◌++◌, sym, ap, ◌∙◌, arith}
use Rattle.fd_tile.specs.declared.place.Place.{Place}
use Rattle.fd_tile.specs.Place.{Holds, over_place}
use Rattle.fd_tile.specs.Tile.{Pixel, pixel_in}
use Rattle.fd_tile.proofs.Pixels.{over_place_same}
use Rattle.fd_events.specs.Table.{Table}
use Rattle.fd_owner.specs.History.{Frame, History, position, last_image, pixel_past, kept_past, frame_after, extend, fresh_history, drawn_history}
use Rattle.fd_session.specs.Switch.{IsSameAt}
use Rattle.fd_owner.proofs.Histories.{extend_none}
use Rattle.fd_owner.proofs.Drawn.{position_drawn, drawn_more}

module _ (old new : Table) (place : Place) (to : ℕ)
    (same : (k x y : ℕ) (before : Pixel) → k < to → Holds place x y → IsSameAt old new k x y before) where
  frame_same : (k : ℕ) (image : List (List Pixel)) → k < to → frame_after old place k image ≡ frame_after new place k image
  unfolding frame_after
  frame_same k image below =
      let frame : List (List Pixel) → List (List (List Pixel)) → Frame = λ rows kept. record { image = rows; kept = kept } in
      let pixel : Table → ℕ → ℕ → Pixel = λ table x y. pixel_past table k x y (pixel_in place image x y) in
      let kept : Table → ℕ → ℕ → List Pixel = λ table x y. kept_past table k x y (pixel_in place image x y) in
      ap (λ (rows : List (List Pixel)). frame rows (over_place place (kept old)))
      (over_place_same place (pixel old) (pixel new) (λ x y held. (same k x y (pixel_in place image x y) below held).0))
      ∙ ap (frame (over_place place (pixel new))) (over_place_same place (kept old) (kept new)
      (λ x y held. (same k x y (pixel_in place image x y) below held).1))

  extend_same : (h : History) → position h < to → extend old place h ≡ extend new place h
  unfolding extend
  extend_same h below =
      ap (λ (f : Frame). let g : History = record { opening = h.opening; frames = h.frames ++ f ∷ [] } in g) (frame_same (position h) (last_image h) below)

  pub history_same : (k : ℕ) → k ≤ to → drawn_history old place k ≡ drawn_history new place k
  history_same zero within = extend_none old place (fresh_history place) ∙ sym (extend_none new place (fresh_history place))
  history_same (suc k) within =
      drawn_more old place k
      ∙ ap (extend old place) (history_same k (omega (arith, within)))
      ∙ extend_same (drawn_history new place k) (omega (arith, within, position_drawn new place k))
      ∙ sym (drawn_more new place k)
