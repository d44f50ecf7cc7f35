-- Promised. The image file format PAM of Netpbm (P7), with four bytes a pixel.
use Rattle.std.specs.Prelude.{ℕ, ◌+◌, ◌*◌, List, [], ◌∷◌, ◌++◌, codes, decimal, length}
use Rattle.std.specs.List.{flat_map}
use Rattle.fd_blend.specs.declared.channel.Colour.{Colour}
use Rattle.fd_events.specs.Image.{image_at}
use Rattle.fd_frame.specs.State.{State}

-- the seven lines of the header
unfoldable pub header : ℕ → ℕ → List ℕ
header width height = codes "P7\nWIDTH " ++ decimal width ++ codes "\nHEIGHT " ++ decimal height ++ codes "\nDEPTH 4\nMAXVAL 255\nTUPLTYPE RGB_ALPHA\nENDHDR\n"

-- the bytes of one pixel
abbrev pub tuple : Colour → List ℕ
tuple colour = colour.r ∷ colour.g ∷ colour.b ∷ colour.a ∷ []

-- the whole file's length
abbrev pub pam_len : ℕ → ℕ → ℕ
pam_len width height = length (header width height) + 4 * width * height

-- the tuples of what a state shows
abbrev pub tuples : State → List ℕ
tuples state = flat_map tuple (image_at state.table state.position)

-- the whole file of what a state shows
abbrev pub pam : State → List ℕ
pam state = header state.table.width state.table.height ++ tuples state
