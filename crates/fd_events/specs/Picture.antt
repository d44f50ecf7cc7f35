-- Promised. A picture that a draw takes its colours from: a box of the target with a colour for each of its pixels, or none where it has a hole.
-- Direct3D 11.3 functional specification: a pixel shader that loads by the pixel's position, and discard.
use Rattle.std.specs.Prelude.{ℕ, ◌+◌, ◌-◌, ◌*◌, ◌/◌, ◌%◌, ◌^◌, Bool, true, false, not, ◌&&◌, ◌==◌, nat_le, nat_lt, List, ◌∷◌, length, drop}
use Rattle.std.specs.Prelude.{Option, Some, None, slice_index_or, unwrap_or, Result, Ok, Err, if◌then◌else◌}
use Rattle.fd_blend.specs.declared.channel.Colour.{Colour}
use Rattle.fd_cover.specs.declared.bounds.Bounds.{Bounds}
use Rattle.fd_cover.specs.Bounds.{shared_box}
use Rattle.fd_events.specs.Limits.{most_side}
use Rattle.fd_events.specs.declared.picture.PictureFault.{PictureFault}
use Rattle.fd_events.specs.declared.picture.PictureFault.TheVariants.{Place, Texels, Holes}

-- the box, four bytes for each of its texels (red, green, blue, alpha) in rows from the top, and a bit for each that tells whether it is a hole
pub record Painting : Type 0 where
  pub left : ℕ
  pub top : ℕ
  pub width : ℕ
  pub height : ℕ
  pub texels : List ℕ
  pub holes : Option (List ℕ)

abbrev pub painting_of : ℕ → ℕ → ℕ → ℕ → List ℕ → Option (List ℕ) → Painting
painting_of left top width height texels holes = record { left = left; top = top; width = width; height = height; texels = texels; holes = holes }

-- ---- what is a picture

-- a place on a target, and a size that one may have
abbrev pub is_place : ℕ → ℕ → ℕ → ℕ → Bool
is_place left top width height =
    (nat_lt left most_side && nat_lt top most_side) && ((nat_le 1 width && nat_le width most_side) && (nat_le 1 height && nat_le height most_side))

-- a bit for each of so many texels
abbrev pub are_holes : ℕ → Option (List ℕ) → Bool
are_holes count None = true
are_holes count (Some holes) = length holes == (count + 7) / 8

-- the picture, or why there is none
abbrev pub made_painting : ℕ → ℕ → ℕ → ℕ → List ℕ → Option (List ℕ) → Result Painting PictureFault
made_painting left top width height texels holes =
    if not (is_place left top width height) then Err Place
    else (if not (length texels == 4 * (width * height)) then Err Texels
    else (if not (are_holes (width * height) holes) then Err Holes
    else Ok (painting_of left top width height texels holes)))

-- ---- its texels

-- whether a coordinate is one of so many from the first on
abbrev pub is_among : ℕ → ℕ → ℕ → Bool
is_among first count at = nat_le first at && nat_lt at (first + count)

abbrev pub is_inside : Painting → ℕ → ℕ → Bool
is_inside p x y = is_among p.left p.width x && is_among p.top p.height y

-- whether a triangle may have a colour there: everywhere, or where its picture lies
abbrev pub is_on : Option Painting → ℕ → ℕ → Bool
is_on None x y = true
is_on (Some picture) x y = is_inside picture x y

-- what of a box lies on a picture, or all of it where there is none
abbrev pub clipped_to : Option Painting → Bounds → Bounds
clipped_to None box = box
clipped_to (Some p) box = shared_box box (record { left = p.left; top = p.top; right = p.left + p.width; bottom = p.top + p.height })

-- the number of the texel on pixel (x, y) of the box
abbrev pub texel_number : Painting → ℕ → ℕ → ℕ
texel_number p x y = (y - p.top) * p.width + (x - p.left)

-- bit n % 8 of byte n / 8 belongs to texel n
abbrev pub is_hole : Option (List ℕ) → ℕ → Bool
is_hole None n = false
is_hole (Some holes) n = (slice_index_or holes (n / 8) 0 / 2 ^ (n % 8) % 2) == 1

-- the colour that four bytes begin with
abbrev pub first_colour : List ℕ → Option Colour
first_colour (r ∷ g ∷ b ∷ a ∷ others) = Some (record { r = r; g = g; b = b; a = a })
first_colour others = None

-- the colour on pixel (x, y), or none outside of the box and on a hole
unfoldable pub texel : Painting → ℕ → ℕ → Option Colour
texel p x y = if is_inside p x y && not (is_hole p.holes (texel_number p x y)) then first_colour (drop (4 * texel_number p x y) p.texels) else None

-- the colour of what is discarded, which nothing is drawn with
abbrev pub no_colour : Colour
no_colour = record { r = 0; g = 0; b = 0; a = 0 }

abbrev pub texel_or_none : Painting → ℕ → ℕ → Colour
texel_or_none p x y = unwrap_or (texel p x y) no_colour
