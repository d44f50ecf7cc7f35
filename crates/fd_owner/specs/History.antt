-- Working. Histories of a place: an opening image, and for each event gone through the image after it and the pixels that it overwrote.
-- An image is the rows of its pixels from the top, each from the left.
use Rattle.std.specs.Prelude.{ℕ, zero, suc, ◌-◌, ◌&&◌, nat_le, List, [], ◌∷◌, ◌++◌, length, map, take, slice_index_or, if◌then◌else◌}
use Rattle.std.specs.List.{sum_by}
use Rattle.fd_tile.specs.declared.place.Place.{Place}
use Rattle.fd_tile.specs.Place.{over_place}
use Rattle.fd_tile.specs.Tile.{Pixel, pixel_in}
use Rattle.fd_events.specs.Table.{Table, active_event, state_at}
use Rattle.fd_events.specs.Image.{fresh_pixel, pixel_after_event, kept_by_event}

-- one event: the image after it, and for each pixel of the place what it overwrote, in its order
pub record Frame : Type 0 where
  pub image : List (List Pixel)
  pub kept : List (List (List Pixel))

pub record History : Type 0 where
  pub opening : List (List Pixel)
  pub frames : List Frame

-- how many events have been gone through
abbrev pub position : History → ℕ
position history = length history.frames

abbrev pub last_or : List (List Pixel) → List Frame → List (List Pixel)
last_or image [] = image
last_or image (f ∷ fs) = last_or f.image fs

-- the image that is shown
abbrev pub last_image : History → List (List Pixel)
last_image history = last_or history.opening history.frames

-- ---- forward

-- pixel (x, y) past the event after position k, from what it was before it
abbrev pub pixel_past : Table → ℕ → ℕ → ℕ → Pixel → Pixel
pixel_past table k x y before = pixel_after_event (active_event table (suc k)) (state_at table k) x y before

-- what of pixel (x, y) this event overwrites
abbrev pub kept_past : Table → ℕ → ℕ → ℕ → Pixel → List Pixel
kept_past table k x y before = kept_by_event (active_event table (suc k)) (state_at table k) x y before

-- the frame of the event after position k, on an image of the place
unfoldable pub frame_after : Table → Place → ℕ → List (List Pixel) → Frame
frame_after table place k image = record {
  image = over_place place (λ x y. pixel_past table k x y (pixel_in place image x y));
  kept = over_place place (λ x y. kept_past table k x y (pixel_in place image x y));
}

-- the history goes through its next event
unfoldable pub extend : Table → Place → History → History
extend table place history = record {
  opening = history.opening;
  frames = history.frames ++ frame_after table place (position history) (last_image history) ∷ [];
}

-- the history goes through its next count events
abbrev pub extend_by : Table → Place → ℕ → History → History
extend_by table place zero history = history
extend_by table place (suc count) history = extend table place (extend_by table place count history)

-- the history goes on to this position
abbrev pub extend_to : Table → Place → ℕ → History → History
extend_to table place to history = extend_by table place (to - position history) history

-- ---- from a fresh place

-- the history of a place on which nothing was drawn
abbrev pub fresh_history : Place → History
fresh_history place = record { opening = over_place place (λ _ _. fresh_pixel); frames = [] }

-- the history that the table's events give a place up to position k
abbrev pub drawn_history : Table → Place → ℕ → History
drawn_history table place k = extend_to table place k (fresh_history place)

-- ---- back

-- the last frame is taken away
unfoldable pub drop_last : History → History
drop_last history = record { opening = history.opening; frames = take (position history - 1) history.frames }

-- the opening image and the first frames
abbrev pub first_frames : ℕ → History → History
first_frames count history = record { opening = history.opening; frames = take count history.frames }

-- ---- what is kept

-- what each event overwrote, oldest event first
abbrev pub records : History → List (List (List (List Pixel)))
records history = map (λ frame. frame.kept) history.frames

-- what of pixel (x, y) event number i overwrote, in its order; nothing outside the place
abbrev pub pixels_kept : Place → History → ℕ → ℕ → ℕ → List Pixel
pixels_kept place history i x y =
    if nat_le place.left x && nat_le place.top y
    then slice_index_or (slice_index_or (slice_index_or (records history) (i - 1) []) (y - place.top) []) (x - place.left) []
    else []

-- how many pixels all events overwrote
abbrev pub pixels_recorded : History → ℕ
pixels_recorded history = sum_by (λ rows. sum_by (λ row. sum_by length row) rows) (records history)

-- ---- what is forgotten

-- the frame of an event that kept nothing, with this image
abbrev pub frame_without_kept : Place → List (List Pixel) → Frame
frame_without_kept place image = record { image = image; kept = over_place place (λ _ _. []) }

-- as many events have been gone through, and of all images the last alone is known
abbrev pub without_past : Place → History → History
without_past place history = record {
  opening = last_image history;
  frames = map (λ _. frame_without_kept place (last_image history)) history.frames;
}
