-- Working. What was read of a capture.
use Rattle.std.specs.Prelude.{◌≡◌, ◌≤◌, ℕ, List, codes, length, Option, Some, None, IfSome, option_and_then, ok_or, Result, Ok, Err, if◌then◌else◌, Vec}
use Rattle.std.specs.Str.{bytes_eq}
use Rattle.std.specs.declared.alloc.Global.{Global}
use Rattle.fd_snap.specs.Limits.{most_pixels}
use Rattle.fd_events.specs.declared.event.Event.{Event}
use Rattle.fd_events.specs.Limits.{most_events}
use Rattle.fd_events.specs.Table.{Table, all_on, IsVersion}
use Rattle.fd_capture.specs.declared.fault.CaptureFault.{CaptureFault}
use Rattle.fd_capture.specs.declared.fault.CaptureFault.TheVariants.{NotJson, NotCapture, Version, Size}
use Rattle.fd_capture.specs.Fault.{◌>>=◌}
use Rattle.serde_json.specs.Data.{Data, Members, object}
use Rattle.serde_json.specs.Find.{get_member, as_object}
use Rattle.serde_json.specs.View.{view}
use Rattle.fd_capture.specs.declared.head.Head.{Head}
use Rattle.fd_capture.specs.Field.{array_of, text_member, number_member}
use Rattle.serde_json.specs.Read.{read}
use Rattle.fd_capture.specs.Capture.{table_of_value}
use Rattle.fd_capture.specs.Streamed.{Clips}
use Rattle.fd_capture.specs.Listed.{GivesListed}

-- the small members, and the events as those of a version
abbrev pub HasHead : ℕ → Head → Members → Type 0
HasHead version head found = (kept : Members) × (view head.members ≡ object kept) × Clips kept found
    × GivesListed version head.events (option_and_then array_of (get_member (codes "events") found))

-- an object has a head, and no other value
abbrev pub IsHead : ℕ → Option Head → Data → Type 0
IsHead version None d = as_object d ≡ None
IsHead version (Some head) d = (found : Members) × (d ≡ object found) × HasHead version head found

-- what was read of the events, if this is a capture
abbrev pub listed_from : {X : Type 0} → Data → Option X → Option X
listed_from d read = option_and_then (λ format. if bytes_eq format (codes "framedbg") then read else None) (text_member "format" d)

-- the table of a capture's small members, and of what was read of its events
abbrev pub table_from : Data → Option (Result (Vec Event Global) CaptureFault) → Result Table CaptureFault
table_from d read = do
  found ← ok_or (listed_from d read) NotCapture
  version ← ok_or (number_member "version" 1 3 d) Version
  width ← ok_or (number_member "width" 1 most_pixels d) Size
  height ← ok_or (number_member "height" 1 most_pixels d) Size
  events ← found
  Ok (all_on version width height events.items)

-- events that a table of a version may have
abbrev pub AreOf : ℕ → Result (Vec Event Global) CaptureFault → Type 0
AreOf version (Ok events) = IsVersion version events.items × (length events.items ≤ most_events)
AreOf version (Err fault) = Unit {0}

-- no version, or the one that the events were read in
abbrev pub IsReadIn : ℕ → Option ℕ → Type 0
IsReadIn version found = IfSome found (λ v. v ≡ version)

-- the table that a text stands for, or the first fault
abbrev pub table_of_text : List ℕ → Result Table CaptureFault
table_of_text text = ok_or (read text) NotJson >>= table_of_value
