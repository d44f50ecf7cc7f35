-- Pieces of an image's rows.
use Rattle.std.proofs.Common.{◌≡◌, ℕ, ◌+◌, ◌*◌, ◌<◌, ◌≤◌, length, take, drop, get_or, map, refl, sym, ap, ◌∙◌, arith}
use Rattle.std.specs.List.{range_with_len}
use Rattle.std.proofs.Math.Nat.{mul-le-mul_right}
use Rattle.std.proofs.lemmas.List.{ext_get_or, length-take, length-drop, get_or-take, get_or-drop}
use Rattle.std.proofs.lemmas.List.FromFn.{get_or-map-range_with_len, length-map-range_with_len}
use Rattle.fd_blend.specs.Channel.{fresh}
use Rattle.fd_events.specs.Table.{Table}
use Rattle.fd_events.specs.Image.{image_at, colour_at}
use Rattle.fd_events.proofs.Images.{length-image_at, get_or-image_at}

-- the last pixel of a row's piece is inside the image
pub row_end_in : (width height x y count : ℕ) → x + count ≤ width → y < height → y * width + x + count ≤ height * width
row_end_in width height x y count inside y_in =
    let rows : (y + 1) * width ≤ height * width = mul-le-mul_right {m = y + 1} {n = height} width (omega arith) in
    omega arith

-- the part of the image that is so many pixels of a row
pub row_in_image : (table : Table) (k x y count : ℕ) → x + count ≤ table.width → y < table.height
    → take count (drop (y * table.width + x) (image_at table k)) ≡ map (λ column. colour_at table k column y) (range_with_len x count)
row_in_image table k x y count inside y_in =
    let image = image_at table k in
    let start = y * table.width + x in
    let row = map (λ column. colour_at table k column y) (range_with_len x count) in
    let long : length row ≡ count = length-map-range_with_len (λ column. colour_at table k column y) x count in
    let room : start + count ≤ length image = omega (arith, length-image_at table k, row_end_in table.width table.height x y count inside y_in) in
    let part : length (take count (drop start image)) ≡ count = omega (arith, length-take count (drop start image), length-drop start image, room) in
    ext_get_or fresh (take count (drop start image)) row (part ∙ sym long)
    (λ i within.
    let i_in : i < count = omega (arith, within, part) in
    let place : start + i ≡ y * table.width + (x + i) = omega arith in
    get_or-take count (drop start image) i fresh i_in
    ∙ get_or-drop start image i fresh
    ∙ ap (λ j. get_or image j fresh) place
    ∙ get_or-image_at table k (x + i) y fresh (omega arith) y_in
    ∙ sym (get_or-map-range_with_len (λ column. colour_at table k column y) x count i (x + i) fresh i_in refl))
