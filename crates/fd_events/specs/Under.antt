-- Working. The cells that lie under a box.
use Rattle.std.specs.Prelude.{ℕ, ◌/◌, ◌^◌, IsTrue}
use Rattle.fd_cover.specs.declared.bounds.Bounds.{Bounds}
use Rattle.fd_cover.specs.Bounds.{is_within}

-- the cells, of a side that is this power of two, hold every pixel of a box
abbrev pub AreUnder : Bounds → Bounds → ℕ → Type 0
AreUnder cells box shift = (x y : ℕ) → IsTrue (is_within box x y) → IsTrue (is_within cells (x / 2 ^ shift) (y / 2 ^ shift))
