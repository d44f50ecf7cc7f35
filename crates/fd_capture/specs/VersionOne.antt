-- Working. What a capture of version 1 stands for: as it was defined before there was version 2, with the limits of then. A vertex has no depth, which is 0
-- in the table.
use Rattle.std.specs.Prelude.{ℕ, ℤ, ◌+◌, ◌^◌, unsigned_abs, codes, Bool, false, List, [], ◌∷◌, length, Option, Some, None, ok_or, Result, Ok, Err}
use Rattle.std.specs.Prelude.{nat_lt, nat_le, ◌&&◌, if◌then◌else◌}
use Rattle.std.specs.List.{list_any}
use Prim.Native.String.{String}
use Rattle.std.specs.Str.{bytes_eq}
use Rattle.std.specs.Result.{result_ok}
use Rattle.serde_json.specs.Data.{Data}
use Rattle.fd_events.specs.declared.draw.Vertex.{Vertex}
use Rattle.fd_cover.specs.declared.shading.Interp.{Interp}
use Rattle.fd_events.specs.declared.event.Event.{Event}
use Rattle.fd_events.specs.declared.event.Event.TheVariants.{Draw, Marker}
use Rattle.fd_events.specs.declared.draw.DrawFault.{DrawFault}
use Rattle.fd_events.specs.declared.draw.DrawFault.TheVariants.{Vertices, Indices, IndexRange}
use Rattle.fd_events.specs.Draw.{DrawList, draw_of as listed_draw}
use Rattle.fd_events.specs.declared.label.LabelFault.{LabelFault}
use Rattle.fd_events.specs.declared.label.LabelFault.TheVariants.{TooLong as TooLongName, Control}
use Rattle.fd_events.specs.Label.{is_control}
use Rattle.fd_events.specs.Indices.{are_in_range}
use Rattle.fd_events.specs.Table.{Table, all_on}
use Rattle.fd_snap.specs.Point.{Point}
use Rattle.fd_capture.specs.declared.fault.CaptureFault.{CaptureFault}
use Rattle.fd_capture.specs.declared.fault.CaptureFault.TheVariants.{TooLong, NotJson, NotCapture, Version, Size, TooMany}
use Rattle.fd_capture.specs.declared.fault.EventFault.{EventFault}
use Rattle.fd_capture.specs.declared.fault.EventFault.TheVariants.{UnknownEvent, BadField}
use Rattle.fd_capture.specs.Capture.{json_of, listed_events}
use Rattle.fd_capture.specs.Fault.{numbered, map_fault, ◌>>=◌}
use Rattle.fd_capture.specs.Field as field
use Rattle.fd_capture.specs.Field.{text_member, number_member, array_member, colour_member, signed_member, indices_member, all_of}
use Rattle.fd_capture.specs.Kind.{clear_event, raster_event, scissor_event, blend_event, factor_of}
use Rattle.fd_capture.specs.Spelling.{spelled_interp}

-- ---- the limits

-- of a target each way, in pixels
abbrev pub most_pixels : ℕ
most_pixels = 2048

-- of a position's coordinates, in 1/65536 pixel
abbrev pub position_limit : ℕ
position_limit = 2 ^ 29

-- of a draw
abbrev pub most_vertices : ℕ
most_vertices = 196608

abbrev pub most_indices : ℕ
most_indices = 196608

abbrev pub most_events : ℕ
most_events = 65536

-- of a marker's name
abbrev pub most_label_bytes : ℕ
most_label_bytes = 64

-- of a capture
abbrev pub most_bytes : ℕ
most_bytes = 67108864

-- ---- one event

-- the step from one optional value to the next
infixl 10 ◌>>?◌
abbrev pub ◌>>?◌ : {A B : Type 0} → Option A → (A → Option B) → Option B
o >>? f = field.◌>>=◌ o f

-- a position, if its coordinates are within the limit
abbrev pub position_of : ℤ → ℤ → Option Point
position_of x y = if nat_le (unsigned_abs x) position_limit && nat_le (unsigned_abs y) position_limit then Some (record { x = x; y = y }) else None

abbrev pub vertex_of : Data → Option Vertex
vertex_of d =
    signed_member "x" d >>? λ x. signed_member "y" d >>? λ y. position_of x y >>? λ position. colour_member "color" d >>? λ colour.
    Some (record { pos = position; colour = colour; z = 0 })

abbrev pub vertices_at : String → Data → Option (List Vertex)
vertices_at name d = array_member name d >>? all_of vertex_of

abbrev pub has_too_many : Option (List ℕ) → Bool
has_too_many None = false
has_too_many (Some indices) = nat_lt most_indices (length indices)

-- the draw of these vertices and indices, or why there is none
abbrev pub made : List Vertex → Option (List ℕ) → Interp → Result DrawList DrawFault
made vertices indices interp =
    if nat_lt most_vertices (length vertices) then Err Vertices
    else (if has_too_many indices then Err Indices
    else (if are_in_range (length vertices) indices then Ok (listed_draw vertices indices interp)
    else Err IndexRange))

-- there may not be too many vertices or indices, and each index names a vertex
abbrev pub draw_of : Data → Option Event
draw_of d =
    (text_member "interp" d >>? spelled_interp) >>? λ interp. vertices_at "vertices" d >>? λ vertices. indices_member "indices" d >>? λ indices.
    result_ok (made vertices indices interp) >>? λ draw. Some (Draw draw)

-- a marker's name, or why there is none
abbrev pub labelled : List ℕ → Result (List ℕ) LabelFault
labelled text = if nat_lt most_label_bytes (length text) then Err TooLongName else (if list_any is_control text then Err Control else Ok text)

abbrev pub marker_of : Data → Option Event
marker_of d = text_member "name" d >>? λ name. result_ok (labelled name) >>? λ label. Some (Marker label)

-- the event of a kind
abbrev pub event_of_kind : List ℕ → Data → Result Event EventFault
event_of_kind kind d =
    if bytes_eq kind (codes "clear") then ok_or (clear_event d) BadField
    else (if bytes_eq kind (codes "raster") then ok_or (raster_event d) BadField
    else (if bytes_eq kind (codes "scissor") then ok_or (scissor_event d) BadField
    else (if bytes_eq kind (codes "blend") then ok_or (blend_event d) BadField
    else (if bytes_eq kind (codes "factor") then ok_or (factor_of d) BadField
    else (if bytes_eq kind (codes "draw") then ok_or (draw_of d) BadField
    else (if bytes_eq kind (codes "marker") then ok_or (marker_of d) BadField
    else Err UnknownEvent))))))

-- the event that a value stands for; a value that is no object, or whose kind is no text, is a bad field
abbrev pub event_of : Data → Result Event EventFault
event_of d = do
  kind ← ok_or (text_member "kind" d) BadField
  event_of_kind kind d

-- ---- all of them

-- the event of a number, or its fault
abbrev pub event_numbered : ℕ → Data → Result Event CaptureFault
event_numbered number d = map_fault (numbered number) (event_of d)

-- the events from a number on, or the first fault
unfoldable pub events_from : ℕ → List Data → Result (List Event) CaptureFault
events_from number [] = Ok []
events_from number (d ∷ ds) = do
  event ← event_numbered number d
  others ← events_from (number + 1) ds
  Ok (event ∷ others)

-- the table that a value stands for, or the first fault in this order
unfoldable pub table_of_value : Data → Result Table CaptureFault
table_of_value d = do
  listed ← ok_or (listed_events d) NotCapture
  version ← ok_or (number_member "version" 1 1 d) Version
  width ← ok_or (number_member "width" 1 most_pixels d) Size
  height ← ok_or (number_member "height" 1 most_pixels d) Size
  few ← (if nat_lt most_events (length listed) then Err TooMany else Ok listed)
  events ← events_from 1 few
  Ok (all_on 1 width height events)

-- the table that these bytes stand for, or the first fault
unfoldable pub capture_of : List ℕ → Result Table CaptureFault
capture_of bytes = do
  text ← (if nat_lt most_bytes (length bytes) then Err TooLong else Ok bytes)
  value ← ok_or (json_of text) NotJson
  table_of_value value
