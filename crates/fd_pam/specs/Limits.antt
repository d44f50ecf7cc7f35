-- Working. How long an image is at most.
use Rattle.std.specs.Prelude.{ℕ}

-- its tuples in bytes: four for each of 16,384 by 16,384 pixels
abbrev pub most_tuple_bytes : ℕ
most_tuple_bytes = 1073741824
