-- Working. How an undo stack stores its frames: those that keep something in blocks, and of the others only how many there are.
use Rattle.std.specs.Prelude.{◌≡◌, ℕ, ◌+◌, ◌-◌, ◌^◌, ◌<◌, ◌≤◌, Bool, true, false, All, List, [], ◌∷◌, ◌++◌, length, replicate}
use Rattle.std.specs.List.{flat_map, sum_by}
use Rattle.fd_undo.specs.Frame.{KeptPixel}
use Rattle.fd_undo.specs.Block.{KeptFrame, Filled, no_block, newest, Rise}

-- the frames from number i up to `count`, of which some are stored
abbrev pub frames_from : ℕ → List KeptFrame → ℕ → List (List KeptPixel)
frames_from i [] count = replicate (count - i) []
frames_from i (f ∷ stored) count = replicate (f.number - i) [] ++ f.kept ∷ frames_from (f.number + 1) stored count

-- the full blocks of a stack, oldest first, each of which has a frame, and the one that is being filled
pub record Stored : Type 0 where
  pub full : List Filled
  pub last : Filled

-- a stack without blocks
abbrev pub no_store : Stored
no_store = record { full = []; last = no_block }

-- the frames of some blocks
abbrev pub stored_in : List Filled → List KeptFrame
stored_in blocks = flat_map (λ b. b.frames) blocks

abbrev pub all_stored : List Filled → Filled → List KeptFrame
all_stored full last = stored_in full ++ last.frames

-- how many pixels stored frames keep
abbrev pub pixels_stored : List KeptFrame → ℕ
pixels_stored stored = sum_by (λ f. length f.kept) stored

-- each of these blocks has a frame
abbrev pub HaveFrames : List Filled → Type 0
HaveFrames blocks = All (λ b. 0 < length b.frames) blocks

-- what holds of the fields: the room that is told is there, in the last block
pub record IsUndoStack (full : List Filled) (last : Filled) (count recorded : ℕ) (frame_left : Bool) (spans_left pixels_left : ℕ) : Type 0 where
  pub rise : Rise 0 (all_stored full last) count
  pub counted : recorded ≡ pixels_stored (all_stored full last)
  pub countable : recorded + pixels_left < 2 ^ 64
  pub frame_room : frame_left ≡ true → count + 1 < 2 ^ 64
  pub stored_room : frame_left ≡ true → 0 < spans_left → (count < 2 ^ 32) × (0 < last.frames_left)
  pub begun : frame_left ≡ false → 0 < spans_left → (0 < length last.frames) × ((newest last.frames).number + 1 ≡ count)
  pub span_room : spans_left ≤ last.spans_left
  pub colour_room : pixels_left ≤ last.colours_left
  pub depth_room : pixels_left ≤ last.depths_left
