-- Working. Frames of rows, and the marks that say where each begins.
use Rattle.std.specs.Prelude.{◌≡◌, ℕ, ◌+◌, ◌-◌, ◌^◌, ◌<◌, ◌≤◌, ◌==◌, ◌&&◌, nat_lt, if◌then◌else◌, List, [], ◌∷◌, ◌++◌, length, take, drop, slice_index_or}
use Rattle.fd_undo.specs.declared.block.Mark.{Mark}
use Rattle.fd_undo.specs.Span.{Span}
use Rattle.fd_undo.specs.Frame.{KeptPixel}
use Rattle.fd_undo.specs.Rows.{Held, colour_count, depth_count, joined}

-- what the event of this number overwrote
pub record KeptFrame : Type 0 where
  pub number : ℕ
  pub kept : List KeptPixel

-- the frames of a block, oldest first, and how many more frames, spans, colours and depths have room
pub record Filled : Type 0 where
  pub frames : List KeptFrame
  pub frames_left : ℕ
  pub spans_left : ℕ
  pub colours_left : ℕ
  pub depths_left : ℕ

-- a block that has no room
abbrev pub no_block : Filled
no_block = record { frames = []; frames_left = 0; spans_left = 0; colours_left = 0; depths_left = 0 }

-- full blocks, oldest first, and for how many more there is room
pub record Full : Type 0 where
  pub items : List Filled
  pub room : ℕ

abbrev pub no_frame : KeptFrame
no_frame = record { number = 0; kept = [] }

-- the newest frame, and the ones before it
abbrev pub newest : List KeptFrame → KeptFrame
newest frames = slice_index_or frames (length frames - 1) no_frame

abbrev pub others : {X : Type 0} → List X → List X
others frames = take (length frames - 1) frames

-- the newest frame keeps more
abbrev pub keeping_row : List KeptFrame → List KeptPixel → List KeptFrame
keeping_row frames row = others frames ++ record { number = (newest frames).number; kept = (newest frames).kept ++ row } ∷ []

-- the number of the oldest frame, or 0
abbrev pub first_number : List KeptFrame → ℕ
first_number [] = 0
first_number (f ∷ frames) = f.number

-- what the frame of this number keeps, or nothing
abbrev pub found : ℕ → List KeptFrame → List KeptPixel
found n [] = []
found n (f ∷ frames) = if f.number == n then f.kept else found n frames

-- the numbers rise from i on, below `count`
abbrev pub Rise : ℕ → List KeptFrame → ℕ → Type 0
Rise i [] count = i ≤ count
Rise i (f ∷ frames) count = (i ≤ f.number) × Rise (f.number + 1) frames count

-- ---- marks
-- where the next frame begins, or the end
abbrev pub next : List Mark → ℕ → ℕ
next [] end = end
next (m ∷ marks) end = m.span

-- the frames of some marks, up to row `end`
abbrev pub marked : List Mark → List (List KeptPixel) → ℕ → List KeptFrame
marked [] rows end = []
marked (m ∷ marks) rows end = record { number = m.number; kept = joined (take (next marks end - m.span) (drop m.span rows)) } ∷ marked marks rows end

-- how many more frames can begin: none where a mark can't say where
abbrev pub marks_left : Held → ℕ → ℕ
marks_left h left = if nat_lt (length h.spans) (2 ^ 32) && (nat_lt (length h.colours) (2 ^ 32) && nat_lt (length h.depths) (2 ^ 32)) then left else 0

-- what a mark says
abbrev pub IsMark : Mark → List Span → Type 0
IsMark m spans = (m.span ≤ length spans) × (m.colour ≡ colour_count (take m.span spans)) × (m.depth ≡ depth_count (take m.span spans)) × (m.number < 2 ^ 32)

-- each frame begins where the one before it ends or later, up to the end of the spans, and its values where those of the spans before it end
abbrev pub AreInOrder : List Mark → List Span → ℕ → Type 0
AreInOrder [] spans end = Unit {0}
AreInOrder (m ∷ marks) spans end = IsMark m spans × (m.span ≤ next marks end) × AreInOrder marks spans end

-- a mark that nothing rests on
abbrev pub no_mark : Mark
no_mark = record { number = 0; span = 0; colour = 0; depth = 0 }

abbrev pub last_mark : List Mark → Mark
last_mark marks = slice_index_or marks (length marks - 1) no_mark

-- the numbers of marks rise
abbrev pub number_at : List Mark → ℕ → ℕ
number_at marks place = (slice_index_or marks place no_mark).number

pub record NumbersRise (marks : List Mark) : Type 0 where
  pub rises : (a b : ℕ) → a < b → b < length marks → number_at marks a < number_at marks b
