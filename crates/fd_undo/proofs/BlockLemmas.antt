-- Frames between marks, and a mark that is looked for by its number.
use Rattle.std.proofs.lemmas.Grind.{common_steps}
use Rattle.std.proofs.Common.{◌≡◌, ◌≢◌, ℕ, zero, suc, ◌+◌, ◌-◌, ◌<◌, ◌≤◌, List, [], ◌∷◌, ◌++◌, length, get_or, take, drop, refl, ap, arith, add-one}
use Rattle.std.proofs.Common.{Result, Ok, Err, None, IfSome}
use Rattle.std.proofs.lemmas.Bool.Decides.{nat_tests}
use Rattle.std.proofs.lemmas.List.{length-take, take-take, drop-take, take_rest, drop_more}
use Rattle.fd_undo.specs.declared.block.Mark.{Mark}
use Rattle.fd_undo.specs.declared.span_slices.Cut.{Cut}
use Rattle.fd_undo.specs.Span.{Span}
use Rattle.fd_undo.specs.Frame.{KeptPixel}
use Rattle.fd_undo.specs.Rows.{Held, rows_of, joined, KeepsMore}
use Rattle.fd_undo.specs.SpanSlices.{cut_of}
use Rattle.fd_undo.specs.Block.{KeptFrame, no_frame, newest, others, keeping_row, found, Rise, next, marked}
use Rattle.fd_undo.specs.Block.{IsMark, AreInOrder, no_mark, last_mark, number_at, NumbersRise}
use Rattle.fd_undo.proofs.FrameLemmas.{others-push, newest-push, others-newest}
use Rattle.fd_undo.proofs.RowLemmas.{length-rows_in}
use Rattle.std.specs.Result.{result_ok}
use Rattle.std.specs.List.Sorted.{IsSearchInRange, IsBinarySearchResult}
use Rattle.std.specs.Ordering.{nat_cmp, ordering_index}
use Rattle.std.proofs.lemmas.List.Sorted.{IsNonDecreasingBy-from_default}

-- the rows from one up to another rest on those up to there alone
part-same : (first end most : ℕ) (rows rows' : List (List KeptPixel)) → first ≤ end → end ≤ most → take most rows ≡ take most rows'
    → take (end - first) (drop first rows) ≡ take (end - first) (drop first rows')
part-same first end most rows rows' ordered within same =
    grind (arith, drop-take {X = List KeptPixel} first (end - first), take-take {A = List KeptPixel} (first + (end - first)) most)

-- the frame of a mark
abbrev frame : Mark → ℕ → List (List KeptPixel) → KeptFrame
frame m end rows = record { number = m.number; kept = joined (take (end - m.span) (drop m.span rows)) }

next-push : (marks : List Mark) (m : Mark) (end : ℕ) → next (marks ++ m ∷ []) end ≡ next marks m.span
next-push [] m end = refl
next-push (t ∷ marks) m end = refl

pub marked-push : (marks : List Mark) (m : Mark) (rows : List (List KeptPixel)) (end : ℕ)
    → marked (marks ++ m ∷ []) rows end ≡ marked marks rows m.span ++ frame m end rows ∷ []
marked-push [] m rows end = refl
marked-push (t ∷ marks) m rows end = cc (next-push marks m end, marked-push marks m rows end)

pub marks-push : (marks : List Mark) (m : Mark) (spans : List Span) (end : ℕ) → AreInOrder marks spans m.span → IsMark m spans → m.span ≤ end
    → AreInOrder (marks ++ m ∷ []) spans end
marks-push [] m spans end is says within = (says, within, tt)
marks-push (t ∷ marks) m spans end is says within = grind (arith, next-push, marks-push marks m spans end is.2 says within)

next-within : (marks : List Mark) (spans : List Span) (end : ℕ) → AreInOrder marks spans end → next marks end ≤ end
next-within [] spans end is = omega arith
next-within (t ∷ marks) spans end is = omega (arith, is.1, next-within marks spans end is.2)

marks-pop : (marks : List Mark) (m : Mark) (spans : List Span) (end : ℕ) → AreInOrder (marks ++ m ∷ []) spans end
    → IsMark m spans × AreInOrder marks spans m.span
marks-pop [] m spans end is = (is.0, tt)
marks-pop (t ∷ marks) m spans end is = grind (arith, next-push, marks-pop marks m spans end is.2)

-- what is before a place rests on the spans and the rows before it
below-same : (marks : List Mark) (spans spans' : List Span) (rows rows' : List (List KeptPixel)) (end : ℕ) → AreInOrder marks spans end → end ≤ length spans'
    → take end spans ≡ take end spans' → take end rows ≡ take end rows' → AreInOrder marks spans' end × (marked marks rows end ≡ marked marks rows' end)
below-same [] spans spans' rows rows' end is long same rows_same = (tt, refl)
below-same (t ∷ marks) spans spans' rows rows' end is long same rows_same =
    let rest = below-same marks spans spans' rows rows' end is.2 long same rows_same in
    grind (arith, take-take {A = Span} t.span end, part-same t.span (next marks end) end rows rows' is.1, next-within marks spans end is.2, rest)

pub length-marked : (marks : List Mark) (rows : List (List KeptPixel)) (end : ℕ) → length (marked marks rows end) ≡ length marks
length-marked [] rows end = refl
length-marked (t ∷ marks) rows end = ap (λ n. suc n) (length-marked marks rows end)

-- ---- the newest frame and those before it
module _ (marks : List Mark) (h : Held) (frames : List KeptFrame) (order : AreInOrder marks h.spans (length h.spans))
    (seen : marked marks (rows_of h) (length h.spans) ≡ frames) (begun : 0 < length frames) where
  split : marks ≡ others marks ++ last_mark marks ∷ []
  split = others-newest marks no_mark (grind (arith, length-marked))

  pub below : IsMark (last_mark marks) h.spans × AreInOrder (others marks) h.spans (last_mark marks).span
  below = marks-pop (others marks) (last_mark marks) h.spans (length h.spans) (rw split at order)

  top_is : (n : Held) → marked marks (rows_of n) (length n.spans) ≡ marked (others marks) (rows_of n) (last_mark marks).span
      ++ record { number = (last_mark marks).number; kept = joined (drop (last_mark marks).span (rows_of n)) } ∷ []
  top_is n = grind (arith, split, marked-push (others marks) (last_mark marks), take_rest, length-rows_in)

  pub newest_kept : (m : Mark) → m ≡ last_mark marks → (newest frames).kept ≡ joined (drop m.span (rows_of h))
  newest_kept m is = grind (arith, top_is h, newest-push)

  -- where its spans go
  pub fewer_marks : (m : Mark) (k : Cut) (low : List Mark) (left : List Span) → m ≡ last_mark marks → k ≡ cut_of m → low ≡ others marks
      → left ≡ take k.span h.spans → AreInOrder low left (length left)
  fewer_marks m k low left last at low_is is = grind (arith, below, length-take, take-take, below-same low h.spans left [] [] m.span)

  pub fewer_frames : (m : Mark) (k : Cut) (low : List Mark) (n : Held) → m ≡ last_mark marks → k ≡ cut_of m → low ≡ others marks
      → n.spans ≡ take k.span h.spans → rows_of n ≡ take k.span (rows_of h) → marked low (rows_of n) (length n.spans) ≡ others frames
  fewer_frames m k low n last at low_is is rows_are = grind (arith, below, top_is h, others-push, length-take, take-take, below-same)

  -- where it keeps more
  pub grown_marks : (more : List Span) → take (last_mark marks).span more ≡ take (last_mark marks).span h.spans → (last_mark marks).span ≤ length more
      → AreInOrder marks more (length more)
  grown_marks more same long = rw split (grind (arith, below, marks-push, below-same (others marks) h.spans more [] [], take-take))

  pub grown_frames : (n : Held) (row : List KeptPixel) → KeepsMore (last_mark marks).span h n row
      → marked marks (rows_of n) (length n.spans) ≡ keeping_row frames row
  grown_frames n row more = grind (arith, top_is, newest-push, others-push, below, below-same (others marks))

-- ---- a frame that is looked for by its number
pub rise-place : (frames : List KeptFrame) (i count a : ℕ) → Rise i frames count → a < length frames
    → (i ≤ (get_or frames a no_frame).number) × ((b : ℕ) → a < b → b < length frames → (get_or frames a no_frame).number < (get_or frames b no_frame).number)
rise-place [] i count a is within = absurd (omega arith)
rise-place (f ∷ frames) i count zero is within = (is.0, λ b before last. grind (arith, common_steps, rise-place frames (f.number + 1) count (b - 1) is.1))
rise-place (f ∷ frames) i count (suc a) is within = grind (arith, common_steps, rise-place frames (f.number + 1) count a is.1)

pub found-place : (frames : List KeptFrame) (i count a : ℕ) → Rise i frames count → a < length frames
    → found (get_or frames a no_frame).number frames ≡ (get_or frames a no_frame).kept
found-place [] i count a is within = absurd (omega arith)
found-place (f ∷ frames) i count zero is within = grind (arith, nat_tests)
found-place (f ∷ frames) i count (suc a) is within = grind (arith, nat_tests, found-place frames (f.number + 1) count a is.1, rise-place)

-- the frame of the mark at a place
pub marked-at : (marks : List Mark) (rows : List (List KeptPixel)) (end a : ℕ) → a < length marks
    → get_or (marked marks rows end) a no_frame ≡ frame (get_or marks a no_mark) (next (drop (a + 1) marks) end) rows
marked-at [] rows end a within = absurd (omega arith)
marked-at (m ∷ marks) rows end zero within = refl
marked-at (m ∷ marks) rows end (suc a) within = grind (arith, common_steps, marked-at marks rows end a)

pub rising : (marks : List Mark) (rows : List (List KeptPixel)) (frames : List KeptFrame) (end i count : ℕ) → marked marks rows end ≡ frames
    → Rise i frames count → NumbersRise marks
rising marks rows frames end i count seen is =
    record { rises = λ a b low high. grind (arith, marked-at, length-marked, (rise-place frames i count a is (grind (arith, length-marked))).1 b) }

pub found-none : (marks : List Mark) (rows : List (List KeptPixel)) (end n : ℕ) → ((a : ℕ) → a < length marks → number_at marks a ≢ n)
    → found n (marked marks rows end) ≡ []
found-none [] rows end n none = refl
found-none (m ∷ marks) rows end n none = grind (arith, nat_tests, none 0, found-none marks rows end n (λ a within. none (suc a) (omega arith)))

-- what the mark at a place says
pub mark-at : (marks : List Mark) (spans : List Span) (end a : ℕ) → AreInOrder marks spans end → a < length marks
    → IsMark (get_or marks a no_mark) spans × ((get_or marks a no_mark).span ≤ next (drop (a + 1) marks) end)
mark-at [] spans end a is within = absurd (omega arith)
mark-at (m ∷ marks) spans end zero is within = (is.0, is.1)
mark-at (m ∷ marks) spans end (suc a) is within = let rest = mark-at marks spans end a is.2 (omega arith) in rw add-one (rw add-one at rest)

pub cut-at : (marks : List Mark) (spans : List Span) (end a : ℕ) → AreInOrder marks spans end → a < length marks → IsMark (get_or marks a no_mark) spans
cut-at marks spans end a is within = (mark-at marks spans end a is within).0

pub next-at : (marks : List Mark) (a end : ℕ) → a < length marks → next (drop a marks) end ≡ (get_or marks a no_mark).span
next-at marks a end within = cc (drop_more marks a no_mark within)

-- items whose numbers rise, of which one is looked for by its number
module _ {X : Type 0} (number : X → ℕ) (none : X) (items : List X) (n : ℕ)
    (rises : (a b : ℕ) → a < b → b < length items → number (get_or items a none) < number (get_or items b none)) where
  pub searched : (r : Result ℕ ℕ) → IsSearchInRange r (length items) → IsBinarySearchResult (λ x. nat_cmp (number x) n) items r
      → IfSome (result_ok r) (λ a. (a < length items) × (number (get_or items a none) ≡ n))
      × (result_ok r ≡ None → (a : ℕ) → a < length items → number (get_or items a none) ≢ n)
  searched (Ok a) in_range equal = ((in_range, grind (arith, nat_tests, equal none)), λ none. absurd (cc))
  searched (Err p) in_range parted =
      let parts = parted (IsNonDecreasingBy-from_default (λ x. ordering_index (nat_cmp (number x) n)) items none
      (λ a b le in_range. grind (arith, nat_tests, rises a b))) in
      (tt, λ _ a within same. grind (arith, nat_tests, parts.0 a none, parts.1 a none))

-- ---- what the goals of a function want, which names it in its attribute
pub ruleset block_begin_steps = (marked-push, marks-push)

pub ruleset block_slices_of_steps = (rising, found-place, found-none, marked-at, length-marked)

pub ruleset block_keep_steps = (below, grown_marks, grown_frames)

pub ruleset block_drop_newest_steps = (below, newest_kept, fewer_marks, fewer_frames)

pub ruleset mark_steps = (mark-at, marked-at, length-marked)

pub ruleset end_of_steps = (cut-at, next-at)

pub ruleset take_last_steps = (others-push, newest-push)
