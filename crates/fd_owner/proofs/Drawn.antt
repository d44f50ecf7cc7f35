-- The history that a table's events give a fresh place: what it shows, and what it keeps.
use Rattle.std.proofs.Common.{◌≡◌, ℕ, zero, suc, ◌+◌, ◌-◌, ◌<◌, ◌≤◌, cond, List, [], ◌∷◌, ◌++◌, length, get_or, ap, ◌∙◌, arith, inl, inr}
use Rattle.std.specs.Prelude.{◌&&◌, nat_le, true}
use Rattle.std.proofs.lemmas.Bool.{cases_lt}
use Rattle.std.proofs.lemmas.Bool.Decides.{nat_tests}
use Rattle.std.proofs.lemmas.List.{get_or_append_left, get_or_at, length-map, map_push}
use Rattle.fd_tile.specs.declared.place.Place.{Place}
use Rattle.fd_tile.specs.Place.{Holds, over_place}
use Rattle.fd_tile.specs.Tile.{Pixel, pixel_in}
use Rattle.fd_tile.proofs.Pixels.{value_in-over_place, over_place_same}
use Rattle.fd_events.specs.Table.{Table}
use Rattle.fd_events.specs.Image.{fresh_pixel, pixel_at, kept_after}
use Rattle.fd_owner.specs.History.{Frame, History, position, last_image, records, pixels_kept, pixel_past, kept_past, frame_after, extend}
use Rattle.fd_owner.specs.History.{fresh_history, drawn_history}
use Rattle.fd_owner.proofs.Histories.{position_extend_to, extend_none, last_extend}

pub position_drawn : (table : Table) (place : Place) (k : ℕ) → position (drawn_history table place k) ≡ k
position_drawn table place k = position_extend_to table place k (fresh_history place) (omega arith)

-- one event more
pub drawn_more : (table : Table) (place : Place) (k : ℕ) → drawn_history table place (suc k) ≡ extend table place (drawn_history table place k)
drawn_more table place k = grind arith

-- what a position shows is what its events give, pixel by pixel
pub last_drawn : (table : Table) (place : Place) (k : ℕ) → last_image (drawn_history table place k) ≡ over_place place (λ x y. pixel_at table k x y)
last_drawn table place zero = ap last_image (extend_none table place (fresh_history place))
last_drawn table place (suc k) =
    rw (drawn_more table place k, last_extend table place (drawn_history table place k), position_drawn table place k, last_drawn table place k)
    (over_place_same place (λ x y. pixel_past table k x y (pixel_in place (over_place place (λ a b. pixel_at table k a b)) x y))
    (λ x y. pixel_past table k x y (pixel_at table k x y))
    (λ x y held. ap (pixel_past table k x y) (value_in-over_place place (λ a b. pixel_at table k a b) x y fresh_pixel held)))

-- what it shows of a pixel
pub pixel_drawn : (table : Table) (place : Place) (k x y : ℕ) → Holds place x y → pixel_in place (last_image (drawn_history table place k)) x y
    ≡ pixel_at table k x y
pixel_drawn table place k x y held = grind (arith, last_drawn, value_in-over_place)

-- ---- what is kept of pixel (x, y)
module _ (place : Place) (x y : ℕ) (held : Holds place x y) where
  abbrev at_pixel : List (List (List Pixel)) → List Pixel
  at_pixel r = get_or (get_or r (y - place.top) []) (x - place.left) []

  inside : (nat_le place.left x && nat_le place.top y) ≡ true
  inside = let left = held.from_left in let top = held.from_top in grind (arith, nat_tests)

  kept_is : (h : History) (i : ℕ) → pixels_kept place h i x y ≡ at_pixel (get_or (records h) (i - 1) [])
  kept_is h i = ap (λ b. cond b (at_pixel (get_or (records h) (i - 1) [])) []) inside

  records_extend : (table : Table) (h : History) → records (extend table place h) ≡ records h ++ (frame_after table place (position h) (last_image h)).kept ∷ []
  unfolding extend
  records_extend table h = map_push (λ (f : Frame). f.kept) h.frames (frame_after table place (position h) (last_image h))

  length-records : (h : History) → length (records h) ≡ position h
  length-records h = length-map h.frames (λ (f : Frame). f.kept)

  -- an event that was gone through before
  kept_before : (table : Table) (h : History) (i : ℕ) → 1 ≤ i → i ≤ position h → pixels_kept place (extend table place h) i x y ≡ pixels_kept place h i x y
  kept_before table h i first last = grind (arith, kept_is, records_extend, get_or_append_left, length-records)

  -- the last event
  kept_last : (table : Table) (h : History) → pixels_kept place (extend table place h) (position h + 1) x y
      ≡ kept_past table (position h) x y (pixel_in place (last_image h) x y)
  unfolding frame_after
  kept_last table h = grind (arith, kept_is, records_extend, get_or_at, length-records, value_in-over_place)

  -- what a table's event overwrites of the pixel
  pub kept_drawn : (table : Table) (k i : ℕ) → i < k → pixels_kept place (drawn_history table place k) (i + 1) x y ≡ kept_after table i x y
  kept_drawn table zero i below = absurd (omega arith)
  kept_drawn table (suc k) i below = rw (drawn_more table place k) (elim (cases_lt i k) [
    | inl earlier ↦
        kept_before table (drawn_history table place k) (i + 1) (omega arith) (omega (arith, position_drawn table place k)) ∙ kept_drawn table k i earlier
    | inr last ↦
        let now : i ≡ k = omega arith in
        let last = kept_last table (drawn_history table place k) in
        rw now (rw (position_drawn table place k, pixel_drawn table place k x y held) at last)
  ])
