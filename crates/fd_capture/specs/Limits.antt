-- Promised. How long a capture is at most.
use Rattle.std.specs.Prelude.{ℕ}

-- in bytes
abbrev pub most_bytes : ℕ
most_bytes = 67108864
