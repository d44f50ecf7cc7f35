-- Promised. How far targets and positions reach.
use Rattle.std.specs.Prelude.{ℕ, ◌^◌}

-- the most pixels that a target has each way
abbrev pub most_pixels : ℕ
most_pixels = 16384

-- the largest absolute value of a position's coordinate, in 1/65536 pixel
abbrev pub position_limit : ℕ
position_limit = 2 ^ 30

-- the largest absolute value of a snapped coordinate, in 1/256 pixel
abbrev pub snapped_limit : ℕ
snapped_limit = 2 ^ 22
