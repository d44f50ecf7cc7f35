-- Promised. A source that is filled while a sink stands as it is.
use Rattle.std.specs.Prelude.{ℕ, List, [], Result, Ok, Err, take}
use Rattle.fd_device.specs.Asking.{FilledBeside}

-- the bytes that a fill of this buffer gave
abbrev pub bytes_of_fill : {E : Type 0} → List ℕ → Result ℕ E → List ℕ
bytes_of_fill buffer (Ok n) = take n buffer
bytes_of_fill buffer (Err failed) = []

-- The source went from old to new by one fill, which gave these bytes while the sink stood so. Only such a fill gives it.
abbrev pub IsFilledBeside : {R W : Type 0} → R → R → W → List ℕ → Type 0
IsFilledBeside old new sink bytes = FilledBeside old new sink bytes
