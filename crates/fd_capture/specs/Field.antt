-- Promised. What the values and members of a capture (RFC 8259) stand for.
use Rattle.std.specs.Prelude.{ℕ, ◌-◌, ◌^◌, ℤ, pos, negsuc, int_le, unsigned_abs, codes, Bool, Option, Some, None, option_map, option_and_then, List}
use Rattle.std.specs.Prelude.{[], ◌∷◌, nat_le, ◌&&◌, ◌==◌, unwrap_or, if◌then◌else◌}
use Prim.Native.String.{String}
use Rattle.serde_json.specs.Data.{Data, Items, no_items, item}
use Rattle.serde_json.specs.Find.{get, as_bool, as_number, as_i64, as_str, as_array}
use Rattle.fd_blend.specs.declared.equation.Part.{Part}
use Rattle.fd_cover.specs.declared.verdict.Rect.{Rect}
use Rattle.fd_events.specs.declared.draw.Vertex.{Vertex}
use Rattle.fd_events.specs.Picture.{no_colour}
use Rattle.fd_snap.specs.Limits.{position_limit}
use Rattle.fd_snap.specs.Point.{Point}
use Rattle.fd_capture.specs.Spelling.{spelled_factor, spelled_op}
use Rattle.fd_blend.specs.declared.channel.Colour.{Colour}

infixl 10 ◌>>=◌
abbrev pub ◌>>=◌ : {A B : Type 0} → Option A → (A → Option B) → Option B
o >>= f = option_and_then f o

-- ---- values

-- a JSON number without point and exponent that fits 64 bits
abbrev pub whole_number : Data → Option ℤ
whole_number d = as_number d >>= as_i64

-- the number, if it is from low to high
abbrev pub between : ℕ → ℕ → ℤ → Option ℕ
between low high (pos n) = if nat_le low n && nat_le n high then Some n else None
between low high (negsuc n) = None

abbrev pub number_between : ℕ → ℕ → Data → Option ℕ
number_between low high d = whole_number d >>= between low high

-- a whole number of 32 bits with a sign
abbrev pub within_32 : ℤ → Option ℤ
within_32 z = if int_le (negsuc 2147483647) z && int_le z (pos 2147483647) then Some z else None

abbrev pub signed_32 : Data → Option ℤ
signed_32 d = whole_number d >>= within_32

-- one without a sign
abbrev pub unsigned_32 : Data → Option ℕ
unsigned_32 d = number_between 0 (2 ^ 32 - 1) d

abbrev pub list_of : Items → List Data
list_of no_items = []
list_of (item d ds) = d ∷ list_of ds

-- what an array has
abbrev pub array_of : Data → Option (List Data)
array_of d = option_map list_of (as_array d)

-- exactly four numbers from 0 to 255: red, green, blue, alpha
abbrev pub colour_of_list : List Data → Option Colour
colour_of_list (r ∷ g ∷ b ∷ a ∷ []) = do
  red ← number_between 0 255 r
  green ← number_between 0 255 g
  blue ← number_between 0 255 b
  alpha ← number_between 0 255 a
  Some (record { r = red; g = green; b = blue; a = alpha })
colour_of_list others = None

abbrev pub colour_of_data : Data → Option Colour
colour_of_data d = array_of d >>= colour_of_list

-- exactly four numbers: left, top, right, bottom
abbrev pub rect_of_list : List Data → Option Rect
rect_of_list (l ∷ t ∷ r ∷ b ∷ []) = do
  left ← signed_32 l
  top ← signed_32 t
  right ← signed_32 r
  bottom ← signed_32 b
  Some (record { left = left; top = top; right = right; bottom = bottom })
rect_of_list others = None

abbrev pub rect_of_data : Data → Option Rect
rect_of_data d = array_of d >>= rect_of_list

-- exactly three texts: source factor, destination factor, operation
abbrev pub part_of_list : List Data → Option Part
part_of_list (s ∷ d ∷ o ∷ []) = do
  source ← as_str s >>= spelled_factor
  destination ← as_str d >>= spelled_factor
  operation ← as_str o >>= spelled_op
  Some (record { src = source; dst = destination; op = operation })
part_of_list others = None

abbrev pub part_of_data : Data → Option Part
part_of_data d = array_of d >>= part_of_list

-- what each value stands for, if all do
abbrev pub all_of : {X : Type 0} → (Data → Option X) → List Data → Option (List X)
all_of f [] = Some []
all_of f (d ∷ ds) = do
  x ← f d
  xs ← all_of f ds
  Some (x ∷ xs)

-- a position, if its coordinates are within the limit
abbrev pub position_within : ℤ → ℤ → Option Point
position_within x y = if nat_le (unsigned_abs x) position_limit && nat_le (unsigned_abs y) position_limit then Some (record { x = x; y = y }) else None

-- ---- members of an object; no other value has any

abbrev pub text_member : String → Data → Option (List ℕ)
text_member name d = get (codes name) d >>= as_str

abbrev pub number_member : String → ℕ → ℕ → Data → Option ℕ
number_member name low high d = get (codes name) d >>= number_between low high

abbrev pub array_member : String → Data → Option (List Data)
array_member name d = get (codes name) d >>= array_of

abbrev pub colour_member : String → Data → Option Colour
colour_member name d = get (codes name) d >>= colour_of_data

abbrev pub flag_member : String → Data → Option Bool
flag_member name d = get (codes name) d >>= as_bool

abbrev pub rect_member : String → Data → Option Rect
rect_member name d = get (codes name) d >>= rect_of_data

abbrev pub part_member : String → Data → Option Part
part_member name d = get (codes name) d >>= part_of_data

abbrev pub signed_member : String → Data → Option ℤ
signed_member name d = get (codes name) d >>= signed_32

-- the depth of a vertex: a member since version 2, and 0 in version 1
abbrev pub z_of : ℕ → Data → Option ℕ
z_of version d = if version == 1 then Some 0 else number_member "z" 0 65535 d

-- a vertex in a capture of a version
abbrev pub vertex_of : ℕ → Data → Option Vertex
vertex_of version d = do
  x ← signed_member "x" d
  y ← signed_member "y" d
  position ← position_within x y
  z ← z_of version d
  colour ← colour_member "color" d
  Some (record { pos = position; colour = colour; z = z })

-- a vertex of a draw with a picture: its colour may be missing or anything, and is never looked at
abbrev pub painted_vertex_of : ℕ → Data → Option Vertex
painted_vertex_of version d = do
  x ← signed_member "x" d
  y ← signed_member "y" d
  position ← position_within x y
  z ← z_of version d
  Some (record { pos = position; colour = unwrap_or (colour_member "color" d) no_colour; z = z })

abbrev pub vertices_member : ℕ → String → Data → Option (List Vertex)
vertices_member version name d = array_member name d >>= all_of (vertex_of version)

abbrev pub painted_vertices_member : ℕ → String → Data → Option (List Vertex)
painted_vertices_member version name d = array_member name d >>= all_of (painted_vertex_of version)

-- indices may be missing
abbrev pub indices_of : Option Data → Option (Option (List ℕ))
indices_of None = Some None
indices_of (Some d) = do
  listed ← array_of d
  indices ← all_of unsigned_32 listed
  Some (Some indices)

abbrev pub indices_member : String → Data → Option (Option (List ℕ))
indices_member name d = indices_of (get (codes name) d)
