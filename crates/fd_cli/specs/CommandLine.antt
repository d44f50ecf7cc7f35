-- Promised. What the program does, from the words of its command line to its status.
use Rattle.std.specs.Prelude.{◌≡◌, ◌<◌, ◌⊎◌, ℕ, List, [], Bool, false, length, Result, Ok, Err, IsSomeAnd, codes}
use Rattle.std.specs.Io.KnownBytes.{Appends}
use Rattle.clap.specs.Words.{Text, fault_of, subcommand_of, IsAmong}
use Rattle.clap.specs.declared.error.kind.ErrorKind.{ErrorKind}
use Rattle.clap.specs.declared.error.kind.ErrorKind.TheVariants.{DisplayHelp, DisplayVersion}
use Rattle.fd_arguments.specs.Wanting.{IsWantedFor}
use Rattle.fd_arguments.specs.Words.{Asks, program}
use Rattle.fd_arguments.specs.declared.arguments.Arguments.{Arguments}
use Rattle.fd_device.specs.Transfer.{Puts, CountsFailure}
use Rattle.fd_listing.specs.Counting.{CountsWriter, EndsFlushed}
use Rattle.fd_listing.specs.Listing.{WritesText}
use Rattle.fd_words.specs.declared.ending.Ending.{Ending}
use Rattle.fd_words.specs.declared.ending.Ending.TheVariants.{Memory}
use Rattle.fd_words.specs.declared.request.Request.{Request}
use Rattle.fd_words.specs.Report.{status_of, report_of}
use Rattle.fd_cli.specs.declared.files.FileFault.{FileFault}
use Rattle.fd_cli.specs.declared.files.FileFault.TheVariants as file
use Rattle.fd_cli.specs.declared.files.WordsFault.{WordsFault}
use Rattle.fd_cli.specs.declared.files.WordsFault.TheVariants as words
use Rattle.fd_cli.specs.Performing.{DevicesShown}

-- The errors were told this text, or a front of it where that device failed. Input and output are as they were.
pub record Tells (text : List ℕ) (old new : DevicesShown) : Type 0 where
  pub input : new.input ≡ old.input
  pub output : new.output ≡ old.output
  pub flushed : new.flushed ≡ old.flushed
  pub count : ℕ
  pub whole : Bool
  pub says : Puts old.errors.bytes new.errors.bytes 0 count text whole
  pub failures : CountsFailure old.errors.failures new.errors.failures whole
  pub breaks_off : whole ≡ false → count < length text

-- The program ended before it did anything, and told so.
abbrev pub EndsBefore : Ending → DevicesShown → DevicesShown → ℕ → Type 0
EndsBefore ending old new status = Tells (report_of ending) old new × (status ≡ status_of ending)

-- A text was written to the output, or a front of it where that failed, and the errors were told the ending.
pub record WritesHelp (text : List ℕ) (old new : DevicesShown) (status : ℕ) : Type 0 where
  pub ending : Ending
  pub written : List ℕ
  pub count : ℕ
  pub told : Bool
  pub input : new.input ≡ old.input
  pub appended : Appends old.output.bytes new.output.bytes written
  pub writes : WritesText text written ending
  pub failures : CountsWriter ending old.output.failures new.output.failures
  pub passed_on : EndsFlushed ending old.flushed new.flushed
  pub says : Puts old.errors.bytes new.errors.bytes 0 count (report_of ending) told
  pub tells : CountsFailure old.errors.failures new.errors.failures told
  pub breaks_off : told ≡ false → count < length (report_of ending)
  pub ends : status ≡ status_of ending

-- What the words' first fault comes to: the help or the version is written, and any other fault is told. The texts are clap's.
abbrev pub Explains : ErrorKind → DevicesShown → DevicesShown → ℕ → Type 0
Explains DisplayHelp old new status = (text : List ℕ) × WritesHelp text old new status
Explains DisplayVersion old new status = (text : List ℕ) × WritesHelp text old new status
Explains fault old new status = (text : List ℕ) × Tells text old new × (status ≡ 1)

-- What it comes to that the words can't be had.
abbrev pub RefusesWords : WordsFault → DevicesShown → DevicesShown → ℕ → Type 0
RefusesWords words.Memory old new status = EndsBefore Memory old new status
RefusesWords words.NotText old new status = Tells (codes "error: a word of the command line is not UTF-8\n") old new × (status ≡ 1)

-- What the file's fault comes to.
abbrev pub Refuses : FileFault → DevicesShown → DevicesShown → ℕ → Type 0
Refuses file.Memory old new status = EndsBefore Memory old new status
Refuses file.Unreadable old new status = Tells (codes "framedbg: cannot read capture\n") old new × (status ≡ 3)

-- What the program does with the first bytes of the capture's file, or with its fault.
abbrev pub DoesWith : Request → Result (List ℕ) FileFault → (Request → List ℕ → Type 0) → DevicesShown → DevicesShown → ℕ → Type 0
DoesWith request (Ok capture) Performed old new status = Performed request capture
DoesWith request (Err fault) Performed old new status = Refuses fault old new status

-- The words ask for something about a file, which gave its bytes or its fault.
pub record Asked (words : List Text) (gave : List ℕ → Result (List ℕ) FileFault → Type 0) (Performed : Request → List ℕ → Type 0) (old new : DevicesShown)
    (status : ℕ) : Type 0 where
  pub arguments : Arguments
  pub outcome : Result (List ℕ) FileFault
  pub no_fault : fault_of program words ≡ []
  pub asks : IsSomeAnd (subcommand_of program words) (λ met. Asks met arguments)
  pub given : gave arguments.capture.now outcome
  pub does : DoesWith arguments.request outcome Performed old new status

-- One of the words' faults was explained.
abbrev pub HasFault : List Text → DevicesShown → DevicesShown → ℕ → Type 0
HasFault words old new status = (kind : ErrorKind) × IsAmong kind (fault_of program words) × Explains kind old new status

-- From words to status: clap wanted memory for the words, or the text of their fault did, and nothing else was done; or they have a fault; or they ask for
-- something, which is done as it is promised.
abbrev pub Programs : List Text → (List ℕ → Result (List ℕ) FileFault → Type 0) → (Request → List ℕ → Type 0) → DevicesShown → DevicesShown → ℕ → Type 0
Programs words gave Performed old new status =
    (IsWantedFor words × EndsBefore Memory old new status) ⊎ (HasFault words old new status ⊎ Asked words gave Performed old new status)
