-- Promised. How a call on a capture ends before it does anything else.
use Rattle.std.specs.Prelude.{◌≡◌, ◌≢◌, ◌<◌, ℕ, List, length, Result, Ok, Err}
use Rattle.fd_capture.specs.Capture.{capture_of}
use Rattle.fd_capture.specs.Limits.{most_bytes}
use Rattle.fd_capture.specs.declared.fault.CaptureFault.TheVariants as fault
use Rattle.fd_events.specs.Table.{Table}
use Rattle.fd_words.specs.declared.ending.Ending.{Ending}
use Rattle.fd_words.specs.declared.ending.Ending.TheVariants.{Capture, Memory}

-- The capture is refused for its first fault, or memory was wanted.
abbrev pub EndsUnread : List ℕ → Ending → Type 0
EndsUnread capture (Capture refused) = (capture_of capture ≡ Err refused) × (refused ≢ fault.Memory)
EndsUnread capture Memory = Unit {0}
EndsUnread capture other = ⊥

-- Reading a capture gives its table, or such an ending.
abbrev pub Opens : List ℕ → Result Table Ending → Type 0
Opens capture (Ok table) = capture_of capture ≡ Ok table
Opens capture (Err ending) = EndsUnread capture ending

-- So it does, and a capture that is too long is refused as that, whatever memory there is.
abbrev pub OpensAs : List ℕ → Result Table Ending → Type 0
OpensAs capture opened = Opens capture opened × (most_bytes < length capture → opened ≡ Err (Capture fault.TooLong))

-- What a call on a capture did, by how it ends: something about its table, or nothing where the capture is refused or memory is wanted.
abbrev pub OfCapture : List ℕ → Ending → Type 0 → (Table → Type 0) → Type 0
OfCapture capture (Capture refused) Nothing Does = EndsUnread capture (Capture refused) × Nothing
OfCapture capture Memory Nothing Does = Nothing
OfCapture capture other Nothing Does = (table : Table) × (capture_of capture ≡ Ok table) × Does table

-- A capture that is too long is refused as that, whatever memory there is.
abbrev pub RefusesTooLong : List ℕ → Ending → Type 0
RefusesTooLong capture ending = most_bytes < length capture → ending ≡ Capture fault.TooLong
