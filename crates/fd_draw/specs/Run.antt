-- Working. Neighbouring pixels of a row.
use Rattle.std.specs.Prelude.{ℕ, ◌+◌, ◌-◌, ◌<◌, ◌≤◌, Bool, if◌then◌else◌}
use Rattle.fd_tile.specs.declared.place.Place.{Place}
use Rattle.fd_draw.specs.declared.run.Run.{Run}

-- its first column, and one past its last
abbrev pub ends_of : Run → ℕ × ℕ
ends_of run = (run.left, run.right)

-- a fact of each of its columns
abbrev pub EachColumn : Run → (ℕ → Type 0) → Type 0
EachColumn run P = (column : ℕ) → run.left ≤ column → column < run.right → P column

-- it is one span, or with a test each of its pixels may be one of its own
abbrev pub run_spans : Bool → Run → ℕ
run_spans tested run = if tested then run.right - run.left else 1

-- row y of a place from side to side
abbrev pub across : Place → ℕ → Run
across p y = record { left = p.left; right = p.left + p.width; y = y }
