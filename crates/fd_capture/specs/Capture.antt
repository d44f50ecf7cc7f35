-- Promised. What a capture, a JSON text (RFC 8259), stands for: a table of events, or the first fault.
use Rattle.std.specs.Prelude.{ℕ, ◌+◌, codes, List, [], ◌∷◌, length, Option, None, option_and_then, ok_or, Result, Ok, Err, nat_lt, ◌==◌, if◌then◌else◌}
use Rattle.std.specs.Str.{bytes_eq, is_utf8}
use Rattle.serde_json.specs.Data.{Data}
use Rattle.serde_json.specs.Read.{read}
use Rattle.fd_events.specs.declared.event.Event.{Event}
use Rattle.fd_snap.specs.Limits.{most_pixels}
use Rattle.fd_events.specs.Limits.{most_events}
use Rattle.fd_events.specs.Table.{Table, all_on}
use Rattle.fd_capture.specs.Limits.{most_bytes}
use Rattle.fd_capture.specs.declared.fault.CaptureFault.{CaptureFault}
use Rattle.fd_capture.specs.declared.fault.CaptureFault.TheVariants.{TooLong, NotJson, NotCapture, Version, Size, TooMany}
use Rattle.fd_capture.specs.declared.fault.EventFault.{EventFault}
use Rattle.fd_capture.specs.declared.fault.EventFault.TheVariants.{UnknownEvent, BadField}
use Rattle.fd_capture.specs.Field.{text_member, number_member, array_member}
use Rattle.fd_capture.specs.Kind.{clear_event, raster_event, scissor_event, blend_event, factor_of, draw_event, marker_event, depth_event, depth_clear_event}
use Rattle.fd_capture.specs.Fault.{numbered, map_fault, ◌>>=◌}

-- ---- one event

-- the event of a kind that version 1 doesn't have
abbrev pub event_of_depth : List ℕ → Data → Result Event EventFault
event_of_depth kind d =
    if bytes_eq kind (codes "depth") then ok_or (depth_event d) BadField
    else (if bytes_eq kind (codes "depth_clear") then ok_or (depth_clear_event d) BadField
    else Err UnknownEvent)

-- the event of a kind, in a capture of a version
abbrev pub event_of_kind : ℕ → List ℕ → Data → Result Event EventFault
event_of_kind version kind d =
    if bytes_eq kind (codes "clear") then ok_or (clear_event d) BadField
    else (if bytes_eq kind (codes "raster") then ok_or (raster_event d) BadField
    else (if bytes_eq kind (codes "scissor") then ok_or (scissor_event d) BadField
    else (if bytes_eq kind (codes "blend") then ok_or (blend_event d) BadField
    else (if bytes_eq kind (codes "factor") then ok_or (factor_of d) BadField
    else (if bytes_eq kind (codes "draw") then ok_or (draw_event version d) BadField
    else (if bytes_eq kind (codes "marker") then ok_or (marker_event d) BadField
    else (if version == 1 then Err UnknownEvent
    else event_of_depth kind d)))))))

-- the event that a value stands for in a capture of a version; a value that is no object, or whose kind is no text, is a bad field
abbrev pub event_of : ℕ → Data → Result Event EventFault
event_of version d = do
  kind ← ok_or (text_member "kind" d) BadField
  event_of_kind version kind d

-- ---- all of them

-- the event of a number in a capture of a version, or its fault
abbrev pub event_numbered : ℕ → ℕ → Data → Result Event CaptureFault
event_numbered version number d = map_fault (numbered number) (event_of version d)

-- the events of a capture of a version from a number on, or the first fault
unfoldable pub events_from : ℕ → ℕ → List Data → Result (List Event) CaptureFault
events_from version number [] = Ok []
events_from version number (d ∷ ds) = do
  event ← event_numbered version number d
  others ← events_from version (number + 1) ds
  Ok (event ∷ others)

-- the events of a capture as they are listed; of any other value there are none
abbrev pub listed_events : Data → Option (List Data)
listed_events d = option_and_then (λ format. if bytes_eq format (codes "framedbg") then array_member "events" d else None) (text_member "format" d)

-- the table that a value stands for, or the first fault in this order
unfoldable pub table_of_value : Data → Result Table CaptureFault
table_of_value d = do
  listed ← ok_or (listed_events d) NotCapture
  version ← ok_or (number_member "version" 1 3 d) Version
  width ← ok_or (number_member "width" 1 most_pixels d) Size
  height ← ok_or (number_member "height" 1 most_pixels d) Size
  few ← (if nat_lt most_events (length listed) then Err TooMany else Ok listed)
  events ← events_from version 1 few
  Ok (all_on version width height events)

-- the JSON value of a text in UTF-8, as serde_json reads it
unfoldable pub json_of : List ℕ → Option Data
json_of bytes = if is_utf8 bytes then read bytes else None

-- the table that these bytes stand for, or the first fault
unfoldable pub capture_of : List ℕ → Result Table CaptureFault
capture_of bytes = do
  text ← (if nat_lt most_bytes (length bytes) then Err TooLong else Ok bytes)
  value ← ok_or (json_of text) NotJson
  table_of_value value
