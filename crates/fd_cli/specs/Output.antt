-- Promised. What `framedbg run` writes: a function of the capture's bytes and the input's, up to the first reply that tells of a want of memory.
use Rattle.std.specs.Prelude.{◌≡◌, ℕ, ◌==◌, Bool, true, false, List, [], ◌∷◌, ◌++◌, length, Result, Ok, Err, ◌⊎◌, if◌then◌else◌}
use Rattle.std.specs.List.{slice_split}
use Rattle.fd_events.specs.Table.{Table}
use Rattle.fd_capture.specs.Capture.{capture_of}
use Rattle.fd_frame.specs.State.{opening}
use Rattle.fd_memory.specs.Wanting.{Wanted}
use Rattle.fd_words.specs.declared.command.Command.{Command}
use Rattle.fd_words.specs.declared.command.Command.TheVariants.{Quit}
use Rattle.fd_words.specs.declared.command.CommandFault.{CommandFault}
use Rattle.fd_words.specs.declared.ending.Ending.{Ending}
use Rattle.fd_words.specs.declared.ending.Ending.TheVariants.{Done, Capture, Read, Write, TooMuch, Memory}
use Rattle.fd_words.specs.Line.{command_of, has_no_byte}
use Rattle.fd_cli.specs.Serving.{ServesCapture}
use Rattle.fd_cli.specs.Transcript.{transcript, WritesUpToMemory}

-- ---- the lines of an input

-- the pieces between its line feeds
abbrev pub pieces_of : List ℕ → List (List ℕ)
pieces_of input = slice_split (λ byte. byte == 10) input

abbrev pub is_quit : Result Command CommandFault → Bool
is_quit (Ok Quit) = true
is_quit other = false

-- of the pieces those that are answered: none after a quit, and not the last one where it is empty
abbrev pub answered_of : List (List ℕ) → List (List ℕ)
answered_of [] = []
answered_of (line ∷ []) = if has_no_byte line then [] else line ∷ []
answered_of (line ∷ next ∷ lines) = if is_quit (command_of line) then line ∷ [] else line ∷ answered_of (next ∷ lines)

-- the lines of an input that are answered
abbrev pub answered : List ℕ → List (List ℕ)
answered input = answered_of (pieces_of input)

abbrev pub but_last : List (List ℕ) → List (List ℕ)
but_last [] = []
but_last (piece ∷ []) = []
but_last (piece ∷ next ∷ pieces) = piece ∷ but_last (next ∷ pieces)

-- the lines of an input that a line feed ends
abbrev pub ended_lines : List ℕ → List (List ℕ)
ended_lines input = but_last (pieces_of input)

-- ---- what is written about a capture's table

-- to an input
abbrev pub output : Table → List ℕ → List ℕ
output table input = transcript (opening table) (answered input)

-- Up to the first reply that tells of a want of memory, if there is one; then memory was wanted.
abbrev pub WritesOutput : Table → List ℕ → List ℕ → Type 0
WritesOutput table input written = WritesUpToMemory Wanted (opening table) (answered input) written

-- The first bytes of it, so many, were taken before the writer failed.
pub record WritesFront (table : Table) (input written : List ℕ) (sent : ℕ) : Type 0 where
  pub unsent : List ℕ
  pub count : sent ≡ length written
  pub whole : WritesOutput table input (written ++ unsent)

-- The lines that a line feed ends were answered.
abbrev pub WritesLines : Table → List ℕ → List ℕ → Type 0
WritesLines table input written = WritesUpToMemory Wanted (opening table) (ended_lines input) written

-- Those before a byte past a bound were.
pub record WritesWithin (table : Table) (taken written : List ℕ) : Type 0 where
  pub input : List ℕ
  pub next : ℕ
  pub more : List ℕ
  pub whole : taken ≡ input ++ next ∷ more
  pub bound : (length input ≡ 268435456) ⊎ (length (ended_lines input) ≡ 1000000)
  pub wrote : WritesLines table input written

-- by how the run ends
abbrev pub WritesAbout : Table → List ℕ → List ℕ → Ending → Type 0
WritesAbout table taken written Done = WritesOutput table taken written
WritesAbout table taken written (Write sent) = WritesFront table taken written sent
WritesAbout table taken written Read = WritesLines table taken written
WritesAbout table taken written TooMuch = WritesWithin table taken written
WritesAbout table taken written other = ⊥

-- ---- from bytes to bytes

-- What a run wrote of a capture's bytes and of those that it took of the input, by how it ends. Nothing is taken and nothing written where the capture is
-- refused, or where memory is wanted before the first reply.
abbrev pub Outputs : List ℕ → List ℕ → List ℕ → Ending → Type 0
Outputs capture taken written (Capture fault) = (capture_of capture ≡ Err fault) × (taken ≡ []) × (written ≡ [])
Outputs capture taken written Memory = (taken ≡ []) × (written ≡ [])
Outputs capture taken written other = (table : Table) × (capture_of capture ≡ Ok table) × WritesAbout table taken written other

abbrev pub ServeWritesOutput : Type 0
ServeWritesOutput =
    (capture taken written : List ℕ) (ending : Ending) (ended : Bool) → ServesCapture capture taken written ending ended → Outputs capture taken written ending
