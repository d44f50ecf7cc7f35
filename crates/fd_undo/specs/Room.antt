-- Working. How much a block has room for.
use Rattle.std.specs.Prelude.{ℕ, ◌+◌, ◌≤◌}
use Rattle.fd_undo.specs.declared.room.Room.{Room}
use Rattle.fd_undo.specs.Block.{Filled}

-- so much room is no more than another
pub record IsWithin (r s : Room) : Type 0 where
  pub frames : r.frames ≤ s.frames
  pub spans : r.spans ≤ s.spans
  pub colours : r.colours ≤ s.colours
  pub depths : r.depths ≤ s.depths

-- room for so many more of each
abbrev pub with_more : Room → ℕ → Room
with_more r n = record { frames = r.frames + n; spans = r.spans + n; colours = r.colours + n; depths = r.depths + n }

-- what a block has room for beside its frames
abbrev pub left_in : Filled → Room
left_in b = record { frames = b.frames_left; spans = b.spans_left; colours = b.colours_left; depths = b.depths_left }
