-- Promised. What a draw is: a triangle list (Direct3D 11.3 functional specification, input assembler).
use Rattle.std.specs.Prelude.{ℕ, List, [], ◌∷◌, length, Option, Some, None, slice_get, Result, Ok, Err, nat_lt, if◌then◌else◌}
use Rattle.std.specs.List.{filter_map}
use Rattle.fd_blend.specs.declared.channel.Colour.{Colour}
use Rattle.fd_cover.specs.declared.shading.Interp.{Interp}
use Rattle.fd_cover.specs.declared.triangle.Tri.{Tri}
use Rattle.fd_snap.specs.Snap.{snapped_point}
use Rattle.fd_events.specs.Limits.{most_vertices}
use Rattle.fd_events.specs.declared.draw.Vertex.{Vertex}
use Rattle.fd_events.specs.declared.draw.DrawFault.{DrawFault}
use Rattle.fd_events.specs.declared.draw.DrawFault.TheVariants.{Vertices, Indices, IndexRange}
use Rattle.fd_events.specs.Indices.{has_too_many, are_in_range}
use Rattle.fd_events.specs.Picture.{Painting}

pub record DrawList : Type 0 where
  pub vertices : List Vertex
  pub indices : Option (List ℕ)
  pub interp : Interp
  pub picture : Option Painting

abbrev pub draw_of : List Vertex → Option (List ℕ) → Interp → DrawList
draw_of vertices indices interp = record { vertices = vertices; indices = indices; interp = interp; picture = None }

-- the draw of these vertices and indices, or why there is none
abbrev pub made : List Vertex → Option (List ℕ) → Interp → Result DrawList DrawFault
made vertices indices interp =
    if nat_lt most_vertices (length vertices) then Err Vertices
    else (if has_too_many indices then Err Indices
    else (if are_in_range (length vertices) indices then Ok (draw_of vertices indices interp)
    else Err IndexRange))

-- the same draw with a picture that its colours come from, or none
abbrev pub with_picture : Option Painting → DrawList → DrawList
with_picture picture d = record d { picture = picture }

-- the draw of these vertices and indices with a picture, or why there is none
abbrev pub picture_added : Option Painting → Result DrawList DrawFault → Result DrawList DrawFault
picture_added picture (Ok d) = Ok (with_picture picture d)
picture_added picture (Err fault) = Err fault

abbrev pub made_with : Option Painting → List Vertex → Option (List ℕ) → Interp → Result DrawList DrawFault
made_with picture vertices indices interp = picture_added picture (made vertices indices interp)

-- a triangle as it is drawn: its snapped corners, their colours and their depths, and the picture that its colours come from, if there is one
pub record Triangle : Type 0 where
  pub corners : Tri
  pub colours : List Colour
  pub depths : List ℕ
  pub picture : Option Painting

abbrev pub triangle_of_vertices : Option Painting → Vertex → Vertex → Vertex → Triangle
triangle_of_vertices picture a b c = record {
  corners = record { a = snapped_point a.pos; b = snapped_point b.pos; c = snapped_point c.pos };
  colours = a.colour ∷ b.colour ∷ c.colour ∷ [];
  depths = a.z ∷ b.z ∷ c.z ∷ [];
  picture = picture;
}

-- each three vertices are a triangle; one or two that are left over are dropped
unfoldable pub triangles_of_list : Option Painting → List Vertex → List Triangle
triangles_of_list picture [] = []
triangles_of_list picture (a ∷ []) = []
triangles_of_list picture (a ∷ b ∷ []) = []
triangles_of_list picture (a ∷ b ∷ c ∷ vs) = triangle_of_vertices picture a b c ∷ triangles_of_list picture vs

-- the vertices, or those that the indices name, in their order
abbrev pub listed_by : List Vertex → Option (List ℕ) → List Vertex
listed_by vertices None = vertices
listed_by vertices (Some indices) = filter_map (slice_get vertices) indices

abbrev pub listed : DrawList → List Vertex
listed d = listed_by d.vertices d.indices

abbrev pub triangles_of : DrawList → List Triangle
triangles_of d = triangles_of_list d.picture (listed d)
