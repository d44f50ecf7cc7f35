-- Working. What becomes of neighbouring pixels of a row.
use Rattle.std.specs.Prelude.{ℕ, List, map}
use Rattle.std.specs.List.{enumerate_from}
use Rattle.fd_blend.specs.declared.channel.Colour.{Colour}

-- a row of colours that begins in a column, each changed by what its column says
abbrev pub changed_row : (ℕ → Colour → Colour) → ℕ → List Colour → List Colour
changed_row change column row = map (λ p. change p.0 p.1) (enumerate_from column row)
