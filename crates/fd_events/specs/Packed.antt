-- Working. Lists of numbers that lie one behind the other.
use Rattle.std.specs.Prelude.{ℕ, ◌+◌, ◌-◌, List, take, drop, slice_index_or}
use Rattle.fd_events.specs.declared.packed.Packed.{Packed}

-- where the list of a cell begins, and the one before it ends
abbrev pub start_of : List ℕ → ℕ → ℕ
start_of starts cell = slice_index_or starts cell 0

-- the numbers from the start of a cell up to the next one
abbrev pub between_starts : List ℕ → List ℕ → ℕ → List ℕ
between_starts numbers starts cell = take (start_of starts (cell + 1) - start_of starts cell) (drop (start_of starts cell) numbers)

-- the list of a cell, with nothing in it where there is none
abbrev pub listed_in : Packed → ℕ → List ℕ
listed_in packed cell = between_starts packed.numbers.items packed.starts.items cell
