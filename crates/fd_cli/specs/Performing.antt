-- Promised. What the program does once its words are read: what it takes of the input, what it writes, what it says of its ending, and its status.
use Rattle.std.specs.Prelude.{◌≡◌, ℕ, ◌≤◌, ◌<◌, List, [], length, Option, Bool, false}
use Rattle.std.specs.Io.KnownBytes.{Consumes, Appends}
use Rattle.fd_device.specs.Transfer.{Puts, CountsFailure}
use Rattle.fd_device.specs.declared.device.Sink as Sink
use Rattle.fd_device.specs.declared.device.Source as Source
use Rattle.fd_words.specs.declared.ending.Ending.{Ending}
use Rattle.fd_words.specs.declared.request.Request.{Request}
use Rattle.fd_words.specs.declared.request.Request.TheVariants.{Run, Image, Events}
use Rattle.fd_listing.specs.Counting.{CountsReader, CountsWriter, EndsFlushed}
use Rattle.fd_listing.specs.Listing.{ListsEvents}
use Rattle.fd_cli.specs.Imaging.{WritesImage}
use Rattle.fd_listing.specs.Opening.{RefusesTooLong}
use Rattle.fd_cli.specs.declared.performing.Devices.{Devices}
use Rattle.fd_cli.specs.Output.{Outputs}
use Rattle.fd_words.specs.Report.{status_of, report_of}
use Rattle.fd_cli.specs.Serving.{ServesCapture}

-- What a request takes of the input and writes about a capture, by how it ends: a run's output, an image, or a list of events.
abbrev pub Does : Request → List ℕ → List ℕ → List ℕ → Ending → Bool → Type 0
Does (Run workers) capture taken written ending ended =
    (length taken ≤ 268435457) × Outputs capture taken written ending × ServesCapture capture taken written ending ended
Does (Image workers at) capture taken written ending ended = (taken ≡ []) × WritesImage capture at written ending
Does Events capture taken written ending ended = (taken ≡ []) × ListsEvents capture written ending

-- what a device shows: its bytes, where it tells them, and how many of its calls failed
pub record DeviceShown : Type 0 where
  pub bytes : Option (List ℕ)
  pub failures : ℕ

abbrev pub shown : Option (List ℕ) → ℕ → DeviceShown
shown bytes failures = record { bytes = bytes; failures = failures }

-- what the devices of the program show, and whether all that its output took was passed on
pub record DevicesShown : Type 0 where
  pub input : DeviceShown
  pub output : DeviceShown
  pub errors : DeviceShown
  pub flushed : Bool

-- what the devices show, as the source, the sink and the errors say of themselves
abbrev pub devices_shown : {R W E : Type 0} → Source.Ghosts R → Sink.Ghosts W → Sink.Ghosts E → Devices R W E → DevicesShown
devices_shown source sink errors devices = record {
  input = shown (source.remaining devices.source) (source.failure_count devices.source);
  output = shown (sink.contents devices.sink) (sink.failure_count devices.sink);
  errors = shown (errors.contents devices.errors) (errors.failure_count devices.errors);
  flushed = sink.is_flushed devices.sink;
}

-- From bytes to bytes: some of the input was taken and some output written, as the request has it; a reader or a writer failed only where the ending says so;
-- all that was written was passed on unless the writer failed; the errors were told the ending's line, or a front of it where that device failed; and the
-- status is the ending's.
pub record Performs (request : Request) (capture : List ℕ) (old new : DevicesShown) (ended : Bool) (status : ℕ) : Type 0 where
  pub ending : Ending
  pub taken : List ℕ
  pub written : List ℕ
  pub count : ℕ
  pub told : Bool
  pub consumed : Consumes old.input.bytes new.input.bytes taken
  pub appended : Appends old.output.bytes new.output.bytes written
  pub does : Does request capture taken written ending ended
  pub too_long : RefusesTooLong capture ending
  pub reads : CountsReader ending old.input.failures new.input.failures
  pub writes : CountsWriter ending old.output.failures new.output.failures
  pub passed_on : EndsFlushed ending old.flushed new.flushed
  pub says : Puts old.errors.bytes new.errors.bytes 0 count (report_of ending) told
  pub tells : CountsFailure old.errors.failures new.errors.failures told
  pub breaks_off : told ≡ false → count < length (report_of ending)
  pub ends : status ≡ status_of ending
