-- Working. Frames that many stacks share: each keeps all of a place, which was alike, whatever place a stack has.
use Rattle.std.specs.Prelude.{ℕ, ◌<◌, Option, Some, None, List, [], ◌∷◌, map, length, slice_index_or}
use Rattle.fd_blend.specs.declared.channel.Colour.{Colour}
use Rattle.fd_blend.specs.Channel.{fresh}
use Rattle.fd_tile.specs.declared.place.Place.{Place}
use Rattle.fd_undo.specs.declared.shared.AlikeFrame.{AlikeFrame}
use Rattle.fd_undo.specs.Frame.{alike}
use Rattle.fd_undo.specs.Span.{Span}
use Rattle.fd_undo.specs.Block.{KeptFrame, Filled}

-- what one keeps of a place, and all of them
abbrev pub alike_frame : Place → AlikeFrame → KeptFrame
alike_frame p f = record { number = f.number; kept = alike p (f.colour, f.depth) }

abbrev pub kept_alike : Place → List AlikeFrame → List KeptFrame
kept_alike p frames = map (λ f. alike_frame p f) frames

-- the place of a span
abbrev pub place_of_span : Span → Place
place_of_span s = record { left = s.x; top = s.y; width = s.len; height = s.rows }

-- a frame that nothing rests on
abbrev pub no_alike : Colour → AlikeFrame
no_alike colour = record { number = 0; colour = colour; depth = 0 }

-- their numbers rise
abbrev pub alike_number : List AlikeFrame → ℕ → ℕ
alike_number frames at = (slice_index_or frames at (no_alike fresh)).number

pub record AlikeRise (frames : List AlikeFrame) : Type 0 where
  pub rises : (a b : ℕ) → a < b → b < length frames → alike_number frames a < alike_number frames b

-- shared frames as a block, which has no room
abbrev pub shared_block : List KeptFrame → Filled
shared_block frames = record { frames = frames; frames_left = 0; spans_left = 0; colours_left = 0; depths_left = 0 }

-- the blocks before those of a stack's own
abbrev pub based : Option (List KeptFrame) → List Filled
based None = []
based (Some frames) = shared_block frames ∷ []
