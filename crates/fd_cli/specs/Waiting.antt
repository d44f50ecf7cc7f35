-- Promised. That a run has answered each line, and passed the answers on, before it asks for more input.
use Rattle.std.specs.Prelude.{◌≡◌, ◌⊎◌, ℕ, List, [], ◌∷◌, ◌++◌, Option, Bool, Ok}
use Rattle.std.specs.Io.KnownBytes.{Appends}
use Rattle.fd_capture.specs.Capture.{capture_of}
use Rattle.fd_device.specs.Beside.{IsFilledBeside}
use Rattle.fd_events.specs.Table.{Table}
use Rattle.fd_listing.specs.Counting.{StaysFlushed}
use Rattle.fd_cli.specs.Serving.{AnswersLines}

-- a read of the input: the source before it, the sink as it stood meanwhile, and the bytes that came
pub record Reading (R W : Type 0) : Type 0 where
  pub source : R
  pub sink : W
  pub bytes : List ℕ

-- what came by some reads, the last of which stands first
abbrev pub bytes_of : {R W : Type 0} → List (Reading R W) → List ℕ
bytes_of [] = []
bytes_of (last ∷ earlier) = bytes_of earlier ++ last.bytes

-- what a sink tells: the bytes that it took, and whether all of them were passed on
pub record Telling (W : Type 0) : Type 0 where
  pub contents : W → Option (List ℕ)
  pub is_flushed : W → Bool

-- Since the sink stood first so, all lines that ended in this input were answered, and the answers passed on.
pub record IsAnswered {W : Type 0} (telling : Telling W) (table : Table) (first now : W) (input : List ℕ) : Type 0 where
  pub written : List ℕ
  pub appended : Appends (telling.contents first) (telling.contents now) written
  pub answers : AnswersLines table input written
  pub passed_on : StaysFlushed (telling.is_flushed first) (telling.is_flushed now)

-- The source went from old to new by these reads alone, the last of which stands first; and before each of them what had come was answered.
abbrev pub WaitsFor : {R W : Type 0} → Telling W → Table → W → R → R → List (Reading R W) → Type 0
WaitsFor telling table first old new [] = new ≡ old
WaitsFor telling table first old new (last ∷ earlier) =
    WaitsFor telling table first old last.source earlier × IsFilledBeside last.source new last.sink last.bytes
    × IsAnswered telling table first last.sink (bytes_of earlier)

-- The source was left alone, or asked so about the table of a capture.
abbrev pub WaitsAbout : {R W : Type 0} → Telling W → List ℕ → W → R → R → Type 0
WaitsAbout {R} {W} telling capture first old new =
    (new ≡ old) ⊎ ((table : Table) × (capture_of capture ≡ Ok table) × (reads : List (Reading R W)) × WaitsFor telling table first old new reads)

-- It was asked so by some reads, which gave this input.
pub record Waited {R W : Type 0} (telling : Telling W) (table : Table) (first : W) (old new : R) (input : List ℕ) : Type 0 where
  pub reads : List (Reading R W)
  pub waits : WaitsFor telling table first old new reads
  pub whole : bytes_of reads ≡ input
