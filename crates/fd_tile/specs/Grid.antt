-- Working. The tiles of a target: squares, cut at the right and bottom borders, numbered row by row.
use Rattle.std.specs.Prelude.{ℕ, ◌+◌, ◌-◌, ◌*◌, ◌/◌, ◌%◌, ◌≤◌, min}
use Rattle.fd_tile.specs.declared.place.Place.{Place}
use Rattle.fd_tile.specs.declared.place.TheConstants.{TILE_SIDE}
use Rattle.fd_snap.specs.Limits.{most_pixels}

-- a target's size in pixels
pub record TargetSize : Type 0 where
  pub width : ℕ
  pub height : ℕ

-- a size that a target can have
pub record IsTargetSize (s : TargetSize) : Type 0 where
  pub wide : 1 ≤ s.width
  pub at_most_wide : s.width ≤ most_pixels
  pub high : 1 ≤ s.height
  pub at_most_high : s.height ≤ most_pixels

-- how many tiles stand side by side, and how many rows of them there are: the last may be cut
abbrev pub columns_of : TargetSize → ℕ
columns_of s = (s.width + (TILE_SIDE - 1)) / TILE_SIDE

abbrev pub rows_of_tiles : TargetSize → ℕ
rows_of_tiles s = (s.height + (TILE_SIDE - 1)) / TILE_SIDE

abbrev pub tile_count : TargetSize → ℕ
tile_count s = columns_of s * rows_of_tiles s

-- the place of the tile in this column and row of tiles
abbrev pub place_in : TargetSize → ℕ → ℕ → Place
place_in s column row = record {
  left = TILE_SIDE * column;
  top = TILE_SIDE * row;
  width = min TILE_SIDE (s.width - TILE_SIDE * column);
  height = min TILE_SIDE (s.height - TILE_SIDE * row);
}

-- the place of tile n
abbrev pub place_of : TargetSize → ℕ → Place
place_of s n = place_in s (n % columns_of s) (n / columns_of s)
