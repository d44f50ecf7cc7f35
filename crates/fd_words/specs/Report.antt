-- Promised. What the program says of its ending.
use Rattle.std.specs.Prelude.{ℕ, List, [], ◌++◌, codes, decimal}
use Rattle.fd_capture.specs.declared.fault.CaptureFault.{CaptureFault}
use Rattle.fd_capture.specs.declared.fault.CaptureFault.TheVariants as fault
use Rattle.fd_words.specs.declared.ending.Ending.{Ending}
use Rattle.fd_words.specs.declared.ending.Ending.TheVariants.{Done, Capture, NoSuchPosition, Read, Write, TooMuch, Memory}

abbrev pub capture_status : CaptureFault → ℕ
capture_status fault.Memory = 5
capture_status other = 2

abbrev pub status_of : Ending → ℕ
status_of Done = 0
status_of (Capture refused) = capture_status refused
status_of NoSuchPosition = 1
status_of Read = 3
status_of (Write sent) = 3
status_of TooMuch = 4
status_of Memory = 5

-- a number within a line
abbrev pub numbered_line : List ℕ → ℕ → List ℕ → List ℕ
numbered_line before number after = before ++ decimal number ++ after

abbrev pub capture_line : CaptureFault → List ℕ
capture_line fault.TooLong = codes "framedbg: capture refused 1 too long\n"
capture_line fault.NotJson = codes "framedbg: capture refused 2 not json\n"
capture_line fault.NotCapture = codes "framedbg: capture refused 3 not a capture\n"
capture_line fault.Version = codes "framedbg: capture refused 4 version\n"
capture_line fault.Size = codes "framedbg: capture refused 5 size\n"
capture_line fault.TooMany = codes "framedbg: capture refused 6 too many events\n"
capture_line (fault.UnknownEvent number) = numbered_line (codes "framedbg: capture refused 7 unknown event ") number (codes "\n")
capture_line (fault.BadField number) = numbered_line (codes "framedbg: capture refused 8 bad field ") number (codes "\n")
capture_line fault.Memory = codes "framedbg: memory\n"

-- the line that tells of an ending, which is empty where all was done
abbrev pub report_of : Ending → List ℕ
report_of Done = []
report_of (Capture refused) = capture_line refused
report_of NoSuchPosition = codes "framedbg: no such position\n"
report_of Read = codes "framedbg: read fault\n"
report_of (Write sent) = numbered_line (codes "framedbg: write fault after ") sent (codes " bytes\n")
report_of TooMuch = codes "framedbg: too much input\n"
report_of Memory = codes "framedbg: memory\n"
