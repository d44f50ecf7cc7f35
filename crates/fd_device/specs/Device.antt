-- Working. A device over a reader or a writer.
use Rattle.std.specs.Prelude.{◌≡◌, ◌<◌, ◌⊎◌, ℕ, List, length, Some, None, Result, Ok, Err, true, false}
use Rattle.std.specs.Result.{result_ok}
use Rattle.fd_device.specs.Asking.{ReadOnce, WrittenOnce}
use Rattle.fd_device.specs.declared.device.Device.{Device}

-- a device that nothing went through yet
abbrev pub unused : {T : Type 0} → T → Device T
unused inner = record { inner = inner; ended = false; flushed = true; failures = 0 }

-- the reader or the writer
abbrev pub inner_of : {T : Type 0} → Device T → T
inner_of device = device.inner

-- A read comes to its count, and an error of any kind to a failure.
abbrev pub ReadJudged : {E F : Type 0} → Result ℕ E → Result ℕ F → Type 0
ReadJudged (Ok count) (Ok same) = same ≡ count
ReadJudged (Err error) (Err failed) = Unit {0}
ReadJudged (Ok count) (Err failed) = ⊥
ReadJudged (Err error) (Ok count) = ⊥

-- So does a write, but that one which takes none of some bytes is a failure too.
abbrev pub WriteJudged : {E F : Type 0} → Result ℕ E → ℕ → Result ℕ F → Type 0
WriteJudged (Ok count) length (Ok same) = (same ≡ count) × (0 < length → 0 < count)
WriteJudged (Ok count) length (Err failed) = (count ≡ 0) × (0 < length)
WriteJudged (Err error) length (Err failed) = Unit {0}
WriteJudged (Err error) length (Ok count) = ⊥

-- The reader was asked once, on its way from old to new, and what it answered is what this comes to.
abbrev pub IsOneRead : {T F : Type 0} → T → T → Result ℕ F → Type 0
IsOneRead old new result = ReadOnce old new (result_ok result)

-- The writer was asked once with these bytes. What it answered is what this comes to; but where it took none of some bytes, that is a failure.
abbrev pub IsOneWrite : {T F : Type 0} → T → T → List ℕ → Result ℕ F → Type 0
IsOneWrite old new bytes (Ok count) = WrittenOnce old new bytes (Some count)
IsOneWrite old new bytes (Err failed) = WrittenOnce old new bytes None ⊎ (WrittenOnce old new bytes (Some 0) × (0 < length bytes))
