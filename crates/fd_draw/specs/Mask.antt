-- Working. Numbers whose bits tell something of each pixel of a row.
use Rattle.std.specs.Prelude.{ℕ, ◌/◌, ◌%◌, ◌^◌, Bool, ◌==◌}

-- bit k is 1
abbrev pub has_bit : ℕ → ℕ → Bool
has_bit mask k = (mask / 2 ^ k % 2) == 1
