-- Working. What a writer of a text did.
use Rattle.std.specs.Prelude.{◌≡◌, ℕ, ◌<◌, List, Option, Result, Ok, Err, false, length, take}
use Rattle.std.specs.Io.KnownBytes.{Appends, Keeps}
use Rattle.fd_device.specs.Transfer.{CountsFailure}
use Rattle.fd_pam.specs.declared.writer.PamFault.{PamFault}
use Rattle.fd_pam.specs.declared.writer.PamFault.TheVariants.{Memory, Write}

-- What a writer of a text did: it sent all of it; or its first bytes, `sent` of them and not all; or none, as memory was wanted first.
abbrev pub Writes : Option (List ℕ) → Option (List ℕ) → List ℕ → Result (Unit {0}) PamFault → Type 0
Writes old new text (Ok done) = Appends old new text
Writes old new text (Err (Write sent)) = (sent < length text) × Appends old new (take sent text)
Writes old new text (Err Memory) = Keeps old new

-- Only a write fault changes the sink's failure count, and it raises it.
abbrev pub CountsWrite : ℕ → ℕ → Result (Unit {0}) PamFault → Type 0
CountsWrite old new (Ok done) = new ≡ old
CountsWrite old new (Err (Write sent)) = CountsFailure old new false
CountsWrite old new (Err Memory) = new ≡ old
