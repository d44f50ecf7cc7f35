-- Working. What is made of the parts of a value, however they were read.
use Rattle.std.specs.Prelude.{◌≡◌, ◌==◌, ℕ, ℤ, List, [], ◌∷◌, map, Bool, true, ◌||◌, codes, Option, Some, None, option_map, is_some, unwrap_or}
use Rattle.std.specs.Prelude.{if◌then◌else◌}
use Rattle.std.specs.List.{list_all}
use Rattle.std.specs.Result.{result_ok}
use Rattle.fd_cover.specs.declared.shading.Interp.TheVariants.{Flat, Linear}
use Rattle.fd_events.specs.Picture.{Painting, made_painting, no_colour}
use Rattle.fd_capture.specs.Picture.{picture_of_data}
use Rattle.fd_capture.specs.declared.vertices.VertexList.{VertexList}
use Rattle.fd_capture.specs.declared.large_members.LargeMembers.{LargeMembers}
use Rattle.fd_capture.specs.Spelling.{spelled_factor, spelled_op}
use Rattle.fd_capture.specs.declared.spelling.Paint.{Paint}
use Rattle.fd_capture.specs.declared.spelling.Paint.TheVariants as paint
use Rattle.fd_capture.specs.declared.spelling.Word.{Word}
use Rattle.fd_blend.specs.declared.equation.Part.{Part}
use Rattle.fd_cover.specs.declared.verdict.Rect.{Rect}
use Rattle.std.specs.Str.{bytes_eq}
use Rattle.serde_json.specs.Data.{Data, Members}
use Rattle.serde_json.specs.Find.{get_member}
use Rattle.fd_json.specs.Clipped.{clipped}
use Rattle.fd_blend.specs.declared.channel.Colour.{Colour}
use Rattle.fd_events.specs.declared.draw.Vertex.{Vertex}
use Rattle.fd_capture.specs.Field.{◌>>=◌, position_within, all_of, array_of, unsigned_32, number_member, colour_member, signed_member}

-- ---- vertices, which are read before it is known whether they need a colour: 0 0 0 0 stands for one that is missing

-- a vertex, and whether it has a colour; version 1 has no depths, which are 0 in the table
abbrev pub vertex_from : ℕ → Option ℤ → Option ℤ → Option ℕ → Option Colour → Option (Vertex × Bool)
vertex_from version some_x some_y some_z some_colour = do
  x ← some_x
  y ← some_y
  position ← position_within x y
  z ← (if version == 1 then Some 0 else some_z)
  Some (record { pos = position; colour = unwrap_or some_colour no_colour; z = z }, is_some some_colour)

abbrev pub vertex_read : ℕ → Data → Option (Vertex × Bool)
vertex_read version d =
    vertex_from version (signed_member "x" d) (signed_member "y" d) (number_member "z" 0 65535 d) (colour_member "color" d)

-- vertices, and whether each has a colour
abbrev pub together : List (Vertex × Bool) → List Vertex × Bool
together read = (map (λ v. v.0) read, list_all (λ v. v.1) read)

abbrev pub vertices_read : ℕ → Data → Option (List Vertex × Bool)
vertices_read version d = option_map together (array_of d >>= all_of (vertex_read version))

abbrev pub vertices_seen : VertexList → List Vertex × Bool
vertices_seen v = (v.list.items, v.coloured)

-- they, if each has a colour
abbrev pub coloured : List Vertex × Bool → Option (List Vertex)
coloured read = if read.1 then Some read.0 else None

abbrev pub colour_from : List ℕ → Option Colour
colour_from (r ∷ g ∷ b ∷ a ∷ []) = Some (record { r = r; g = g; b = b; a = a })
colour_from others = None

-- ---- arrays of a few values

abbrev pub rect_from : List ℤ → Option Rect
rect_from (l ∷ t ∷ r ∷ b ∷ []) = Some (record { left = l; top = t; right = r; bottom = b })
rect_from others = None

-- what a text spells in a part: a factor, an operation or neither
abbrev pub words_spelled : List ℕ → Word
words_spelled text = record { factor = spelled_factor text; op = spelled_op text }

abbrev pub part_from : List Word → Option Part
part_from (s ∷ d ∷ o ∷ []) = do
  source ← s.factor
  destination ← d.factor
  operation ← o.op
  Some (record { src = source; dst = destination; op = operation })
part_from others = None

-- where the colours of a draw come from
abbrev pub spelled_paint : List ℕ → Option Paint
spelled_paint text =
    if bytes_eq text (codes "flat") then Some (paint.Vertices Flat)
    else (if bytes_eq text (codes "linear") then Some (paint.Vertices Linear)
    else (if bytes_eq text (codes "picture") then Some paint.Picture
    else None))

abbrev pub indices_of_array : Data → Option (List ℕ)
indices_of_array d = array_of d >>= all_of unsigned_32

-- ---- members

-- a capture has a member of this name beside its events
abbrev pub is_small : List ℕ → Bool
is_small name =
    bytes_eq name (codes "format") || bytes_eq name (codes "version") || bytes_eq name (codes "width") || bytes_eq name (codes "height")

-- of the small members, the outermost part
abbrev pub Clips : Members → Members → Type 0
Clips kept found = (name : List ℕ) → is_small name ≡ true → get_member name kept ≡ option_map clipped (get_member name found)

-- a member that may be missing, but not malformed
abbrev pub if_any : {X : Type 0} → Option (Option X) → Option (Option X)
if_any None = Some None
if_any (Some None) = None
if_any (Some (Some x)) = Some (Some x)

abbrev pub well_formed : {X : Type 0} → Option (Option X) → Option X
well_formed None = None
well_formed (Some o) = o

-- ---- a picture

-- versions before 3 don't look at it
abbrev pub picture_read : ℕ → Data → Option Painting
picture_read version d = if version == 3 then picture_of_data d else None

-- of what its members stand for
abbrev pub picture_from : Option ℕ → Option ℕ → Option ℕ → Option ℕ → Option (List ℕ) → Option (Option (List ℕ)) → Option Painting
picture_from some_left some_top some_width some_height some_texels some_holes = do
  left ← some_left
  top ← some_top
  width ← some_width
  height ← some_height
  texels ← some_texels
  holes ← if_any some_holes
  result_ok (made_painting left top width height texels holes)

-- ---- an event

-- what the large members of an event stand for, if they are there and well formed
pub record Large : Type 0 where
  pub vertices : Option (Option (List Vertex × Bool))
  pub indices : Option (Option (List ℕ))
  pub picture : Option (Option Painting)

abbrev pub large_of : LargeMembers → Large
large_of large = record {
  vertices = option_map (option_map vertices_seen) large.vertices;
  indices = option_map (option_map (λ v. v.items)) large.indices;
  picture = option_map (option_map (λ p. p.value)) large.picture;
}
