-- Working. How many pixels are shaded at once.
use Rattle.std.specs.Prelude.{ℕ}

-- the most pixels of a row whose colours or depths are found in one call
abbrev pub most_in_row : ℕ
most_in_row = 32
