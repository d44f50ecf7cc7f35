-- Working. How long a reply is at most.
use Rattle.std.specs.Prelude.{ℕ, ◌^◌}

-- in bytes: a history of 65,536 triangles in each of 1,000,000 events stays below it
abbrev pub most_reply_bytes : ℕ
most_reply_bytes = 2 ^ 43
