-- Working. What a capture of version 2 stands for: as it was defined before there was version 3.
use Rattle.std.specs.Prelude.{ℕ, ◌+◌, codes, List, [], ◌∷◌, length, Option, Some, ok_or, Result, Ok, Err, nat_lt, if◌then◌else◌}
use Prim.Native.String.{String}
use Rattle.std.specs.Str.{bytes_eq}
use Rattle.std.specs.Result.{result_ok}
use Rattle.serde_json.specs.Data.{Data}
use Rattle.fd_snap.specs.Limits.{most_pixels}
use Rattle.fd_events.specs.declared.draw.Vertex.{Vertex}
use Rattle.fd_events.specs.declared.event.Event.{Event}
use Rattle.fd_events.specs.declared.event.Event.TheVariants.{Draw}
use Rattle.fd_events.specs.Draw.{made}
use Rattle.fd_events.specs.Limits.{most_events}
use Rattle.fd_events.specs.Table.{Table, all_on}
use Rattle.fd_capture.specs.Limits.{most_bytes}
use Rattle.fd_capture.specs.declared.fault.CaptureFault.{CaptureFault}
use Rattle.fd_capture.specs.declared.fault.CaptureFault.TheVariants.{TooLong, NotJson, NotCapture, Version, Size, TooMany}
use Rattle.fd_capture.specs.declared.fault.EventFault.{EventFault}
use Rattle.fd_capture.specs.declared.fault.EventFault.TheVariants.{UnknownEvent, BadField}
use Rattle.fd_capture.specs.Capture.{json_of, listed_events}
use Rattle.fd_capture.specs.Fault.{numbered, map_fault, ◌>>=◌}
use Rattle.fd_capture.specs.Field.{text_member, number_member, array_member, colour_member, signed_member, position_within, indices_member, all_of}
use Rattle.fd_capture.specs.Kind.{clear_event, raster_event, scissor_event, blend_event, factor_of, depth_event, depth_clear_event, marker_event}
use Rattle.fd_capture.specs.Spelling.{spelled_interp}
use Rattle.fd_capture.specs.VersionOne.{◌>>?◌}

-- ---- one event

-- each vertex has a depth and a colour
abbrev pub vertex_of : Data → Option Vertex
vertex_of d =
    signed_member "x" d >>? λ x. signed_member "y" d >>? λ y. position_within x y >>? λ position. number_member "z" 0 65535 d >>? λ z.
    colour_member "color" d >>? λ colour. Some (record { pos = position; colour = colour; z = z })

abbrev pub vertices_at : String → Data → Option (List Vertex)
vertices_at name d = array_member name d >>? all_of vertex_of

-- there may not be too many vertices or indices, and each index names a vertex
abbrev pub draw_of : Data → Option Event
draw_of d =
    (text_member "interp" d >>? spelled_interp) >>? λ interp. vertices_at "vertices" d >>? λ vertices. indices_member "indices" d >>? λ indices.
    result_ok (made vertices indices interp) >>? λ draw. Some (Draw draw)

-- the event of a kind
abbrev pub event_of_kind : List ℕ → Data → Result Event EventFault
event_of_kind kind d =
    if bytes_eq kind (codes "clear") then ok_or (clear_event d) BadField
    else (if bytes_eq kind (codes "raster") then ok_or (raster_event d) BadField
    else (if bytes_eq kind (codes "scissor") then ok_or (scissor_event d) BadField
    else (if bytes_eq kind (codes "blend") then ok_or (blend_event d) BadField
    else (if bytes_eq kind (codes "factor") then ok_or (factor_of d) BadField
    else (if bytes_eq kind (codes "draw") then ok_or (draw_of d) BadField
    else (if bytes_eq kind (codes "marker") then ok_or (marker_event d) BadField
    else (if bytes_eq kind (codes "depth") then ok_or (depth_event d) BadField
    else (if bytes_eq kind (codes "depth_clear") then ok_or (depth_clear_event d) BadField
    else Err UnknownEvent))))))))

-- the event that a value stands for; a value that is no object, or whose kind is no text, is a bad field
abbrev pub event_of : Data → Result Event EventFault
event_of d = do
  kind ← ok_or (text_member "kind" d) BadField
  event_of_kind kind d

-- ---- all of them

-- the event of a number, or its fault
abbrev pub event_numbered : ℕ → Data → Result Event CaptureFault
event_numbered number d = map_fault (numbered number) (event_of d)

-- the events from a number on, or the first fault
unfoldable pub events_from : ℕ → List Data → Result (List Event) CaptureFault
events_from number [] = Ok []
events_from number (d ∷ ds) = do
  event ← event_numbered number d
  others ← events_from (number + 1) ds
  Ok (event ∷ others)

-- the table that a value stands for, or the first fault in this order
unfoldable pub table_of_value : Data → Result Table CaptureFault
table_of_value d = do
  listed ← ok_or (listed_events d) NotCapture
  version ← ok_or (number_member "version" 2 2 d) Version
  width ← ok_or (number_member "width" 1 most_pixels d) Size
  height ← ok_or (number_member "height" 1 most_pixels d) Size
  few ← (if nat_lt most_events (length listed) then Err TooMany else Ok listed)
  events ← events_from 1 few
  Ok (all_on 2 width height events)

-- the table that these bytes stand for, or the first fault
unfoldable pub capture_of : List ℕ → Result Table CaptureFault
capture_of bytes = do
  text ← (if nat_lt most_bytes (length bytes) then Err TooLong else Ok bytes)
  value ← ok_or (json_of text) NotJson
  table_of_value value
