-- Frames by number, some of which are stored, and the block that has the frame of a number.
use Rattle.std.proofs.lemmas.Bool.Decides.{nat_tests}
use Rattle.std.proofs.lemmas.Grind.{common_steps}
use Rattle.std.proofs.Common.{subst, ◌≡◌, ◌≢◌, ℕ, zero, suc, ◌+◌, ◌-◌, ◌^◌, ◌<◌, ◌≤◌, ◌∙◌, Bool, false, List, [], ◌∷◌, ◌++◌, length, get_or, map, refl, sym, ap}
use Rattle.std.proofs.Common.{arith, inl, inr, ◌⊎◌, length-append, append_assoc, take, drop, length-drop}
use Rattle.std.specs.Prelude.{replicate}
use Rattle.std.proofs.lemmas.List.{length-replicate, get_or-replicate, replicate-append-replicate, get_or-append_right, get_or_past, take-append-drop}
use Rattle.std.proofs.lemmas.List.{drop_more, get_or-drop, append-nil}
use Rattle.fd_undo.specs.Frame.{KeptPixel, top, older}
use Rattle.fd_undo.specs.Undo.{recorded_in}
use Rattle.fd_undo.specs.Block.{KeptFrame, Filled, no_frame, newest, others, keeping_row, found, first_number, Rise}
use Rattle.fd_undo.specs.Stack.{frames_from, stored_in, pixels_stored, HaveFrames}
use Rattle.fd_undo.proofs.FrameLemmas.{others-newest, older-push, top-push, older-top, recorded_in-cons, length-zip_equal, newest-push}
use Rattle.fd_undo.proofs.FrameLemmas.{length-kept_row, length-kept_place}
use Rattle.std.proofs.lemmas.List.Concat.{flat_map-append}
use Rattle.std.specs.List.Sorted.{IsNonDecreasingBy}
use Rattle.std.proofs.lemmas.List.Sorted.{IsNonDecreasingBy-from_all_adjacent}
use Rattle.std.proofs.lemmas.List.Folds.{sum_by-replicate}
use Rattle.std.proofs.lemmas.List.Sums.{sum_by-cons, sum_by-append, sum_by_push}

-- ---- the numbers
pub rise-push : (i : ℕ) (stored : List KeptFrame) (f : KeptFrame) (count : ℕ) → Rise i stored f.number → f.number + 1 ≤ count
    → Rise i (stored ++ f ∷ []) count
rise-push i [] f count is within = (is, within)
rise-push i (t ∷ stored) f count is within = (is.0, rise-push (t.number + 1) stored f count is.1 within)

pub rise-grow : (i : ℕ) (stored : List KeptFrame) (count more : ℕ) → Rise i stored count → count ≤ more → Rise i stored more
rise-grow i [] count more is fits = omega arith
rise-grow i (t ∷ stored) count more is fits = (is.0, rise-grow (t.number + 1) stored count more is.1 fits)

pub rise-within : (i : ℕ) (stored : List KeptFrame) (count : ℕ) → Rise i stored count → i ≤ count
rise-within i [] count is = is
rise-within i (t ∷ stored) count is = omega (arith, is.0, rise-within (t.number + 1) stored count is.1)

pub rise-lower : (i k : ℕ) (stored : List KeptFrame) (count : ℕ) → Rise k stored count → i ≤ k → Rise i stored count
rise-lower i k [] count is low = omega arith
rise-lower i k (t ∷ stored) count is low = (omega (arith, is.0), is.1)

rise-first : (i : ℕ) (stored : List KeptFrame) (count : ℕ) → Rise i stored count → 0 < length stored
    → (i ≤ first_number stored) × (first_number stored < count)
rise-first i [] count is some = absurd (omega arith)
rise-first i (f ∷ stored) count is some = (is.0, omega (arith, rise-within (f.number + 1) stored count is.1))

-- those of a part rise from some number on, up to where those of the next begin
pub rise-split : (i : ℕ) (low high : List KeptFrame) (count : ℕ) → Rise i (low ++ high) count → (mid : ℕ) × Rise i low mid × Rise mid high count
rise-split i [] high count is = (i, omega arith, is)
rise-split i (t ∷ low) high count is = let r = rise-split (t.number + 1) low high count is.1 in (r.0, (is.0, r.1), r.2)

pub rise-back : (i : ℕ) (low high : List KeptFrame) (count : ℕ) → Rise i (low ++ high) count → Rise i high count
rise-back i low high count is = grind (arith, rise-split i low high count is, rise-lower, rise-within)

pub rise-front : (i : ℕ) (low high : List KeptFrame) (count : ℕ) → Rise i (low ++ high) count → Rise i low count
rise-front i low high count is = grind (arith, rise-split i low high count is, rise-grow, rise-within)

pub rise-pop : (i : ℕ) (stored : List KeptFrame) (f : KeptFrame) (count : ℕ) → Rise i (stored ++ f ∷ []) count
    → Rise i stored f.number × (f.number + 1 ≤ count)
rise-pop i stored f count is = grind (arith, rise-split, rise-grow)

-- ---- the frames
pub length-frames : (i : ℕ) (stored : List KeptFrame) (count : ℕ) → Rise i stored count → i + length (frames_from i stored count) ≡ count
length-frames i [] count is = grind (arith, length-replicate)
length-frames i (t ∷ stored) count is = grind (arith, length-frames (t.number + 1) stored count is.1, length-replicate, length-append)

pub ruleset frame_counts = (length-frames)

-- more frames that are not stored
pub frames-grow : (i : ℕ) (stored : List KeptFrame) (count more : ℕ) → Rise i stored count → count ≤ more
    → frames_from i stored more ≡ frames_from i stored count ++ replicate (more - count) []
frames-grow i [] count more is fits = grind (arith, replicate-append-replicate)
frames-grow i (t ∷ stored) count more is fits = grind (arith, frames-grow (t.number + 1) stored count more is.1 fits, append_assoc)

together : (k n : ℕ) → k ≤ n → (let none : List (List KeptPixel) = replicate k [] in none) ++ replicate (n - k) [] ≡ replicate (n - 0) []
together k n low = grind (arith, replicate-append-replicate)

-- those before the first of them, which are not stored
pub frames-lower : (k : ℕ) (stored : List KeptFrame) (count : ℕ) → Rise k stored count
    → frames_from 0 stored count ≡ replicate k [] ++ frames_from k stored count
frames-lower k [] count is = sym (together k count is)
frames-lower k (t ∷ stored) count is = grind (arith, together k t.number is.0, append_assoc)

pub frames-passed : (stored : List KeptFrame) (frames : List (List KeptPixel)) (count more : ℕ) → Rise 0 stored count
    → frames_from 0 stored count ≡ frames → length frames ≤ more → frames_from 0 stored more ≡ frames ++ replicate (more - length frames) []
frames-passed stored frames count more is shown fits = grind (arith, length-frames 0 stored count is, frames-grow 0 stored count more is)

pub frames-next : (stored : List KeptFrame) (count : ℕ) → Rise 0 stored count → frames_from 0 stored (count + 1) ≡ frames_from 0 stored count ++ [] ∷ []
frames-next stored count is = grind (arith, frames-grow 0 stored count (count + 1) is)

pub frames-push : (i : ℕ) (stored : List KeptFrame) (f : KeptFrame) (count : ℕ)
    → frames_from i (stored ++ f ∷ []) count ≡ frames_from i stored f.number ++ f.kept ∷ replicate (count - (f.number + 1)) []
frames-push i [] f count = refl
frames-push i (t ∷ stored) f count = grind (arith, frames-push (t.number + 1) stored f count, append_assoc)

-- frames that are all empty
pub frames-emptied : (frames : List (List KeptPixel)) (count : ℕ) → length frames ≡ count → frames_from 0 [] count ≡ map (λ _. []) frames
frames-emptied [] count size = cc
frames-emptied (f ∷ frames) count size =
    let e0 : count - 0 ≡ suc (count - 1 - 0) = omega (arith, size) in cc (frames-emptied frames (count - 1) (omega (arith, size)))

-- ---- how many pixels they keep
recorded-none : (n : ℕ) → let none : List (List KeptPixel) = replicate n [] in recorded_in none ≡ 0
recorded-none n = grind (arith, sum_by-replicate)

pub recorded-stored : (i : ℕ) (stored : List KeptFrame) (count : ℕ) → recorded_in (frames_from i stored count) ≡ pixels_stored stored
recorded-stored i [] count = recorded-none (count - i)
recorded-stored i (t ∷ stored) count =
    simp (sum_by-append, sum_by-cons) (omega (arith, recorded-stored (t.number + 1) stored count, recorded-none (t.number - i)))

pub ruleset stack_recorded_steps = (recorded-stored)

-- ---- one more frame that is stored
module _ (low frames more : List KeptFrame) (number : ℕ) (kept : List KeptPixel)
    (same : more ≡ frames ++ record { number = number; kept = kept } ∷ []) where
  abbrev pushed : KeptFrame
  pushed = record { number = number; kept = kept }

  split_more : low ++ more ≡ (low ++ frames) ++ pushed ∷ []
  split_more = ap (λ l. low ++ l) same ∙ sym (append_assoc low frames (pushed ∷ []))

  pub pushed_stored : frames_from 0 (low ++ more) (number + 1) ≡ frames_from 0 (low ++ frames) number ++ kept ∷ []
  pushed_stored = grind (arith, split_more, frames-push 0 (low ++ frames) pushed (number + 1))

  pub pushed_rises : Rise 0 (low ++ frames) number → Rise 0 (low ++ more) (number + 1)
  pushed_rises is = rw split_more (rise-push 0 (low ++ frames) pushed (number + 1) is (omega arith))

  pub pushed_pixels : pixels_stored (low ++ more) ≡ pixels_stored (low ++ frames) + length kept
  pushed_pixels = grind (arith, split_more, sum_by_push)

-- ---- the youngest frame is stored
split_all : (low frames : List KeptFrame) → 0 < length frames → low ++ frames ≡ (low ++ others frames) ++ newest frames ∷ []
split_all low frames some = ap (λ l. low ++ l) (others-newest frames no_frame some) ∙ sym (append_assoc low (others frames) (newest frames ∷ []))

-- what a stack keeps with its newest stored frame, and without it
pub record Newest (low frames : List KeptFrame) (count : ℕ) : Type 0 where
  pub fits : (newest frames).number + 1 ≤ count
  pub rise : Rise 0 (low ++ others frames) (newest frames).number
  pub pixels : pixels_stored (low ++ frames) ≡ pixels_stored (low ++ others frames) + length (newest frames).kept
  pub all : frames_from 0 (low ++ frames) count
      ≡ frames_from 0 (low ++ others frames) (newest frames).number ++ (newest frames).kept ∷ replicate (count - ((newest frames).number + 1)) []

pub newest_stored : (low frames : List KeptFrame) (count : ℕ) → 0 < length frames → Rise 0 (low ++ frames) count → Newest low frames count
newest_stored low frames count some is = grind (arith, split_all low frames some, rise-pop, sum_by_push, frames-push)

-- it keeps more
module _ (low frames more : List KeptFrame) (count : ℕ) (row : List KeptPixel) (same : more ≡ keeping_row frames row) (some : 0 < length frames)
    (at : (newest frames).number + 1 ≡ count) (is : Rise 0 (low ++ frames) count) where
  abbrev own : KeptFrame
  own = newest frames

  pub more_stored : frames_from 0 (low ++ more) count
      ≡ older (frames_from 0 (low ++ frames) count) ++ (top (frames_from 0 (low ++ frames) count) ++ row) ∷ []
  more_stored =
      grind (
        arith,
        newest_stored low frames count some is,
        pushed_stored low (others frames) more own.number (own.kept ++ row) same,
        older-push,
        top-push,
      )

  pub more_rises : Rise 0 (low ++ more) count
  more_rises = grind (arith, newest_stored low frames count some is, pushed_rises low (others frames) more own.number (own.kept ++ row) same)

  pub more_pixels : pixels_stored (low ++ more) ≡ pixels_stored (low ++ frames) + length row
  more_pixels =
      grind (arith, newest_stored low frames count some is, length-append, pushed_pixels low (others frames) more own.number (own.kept ++ row) same)

-- ---- no frame from a number on is stored
pub missed : (low frames : List KeptFrame) (count from : ℕ) → (0 < length frames → (newest frames).number < from)
    → (length frames ≡ 0 → low ++ frames ≡ []) → Rise 0 (low ++ frames) count → Rise 0 (low ++ frames) from
missed low [] count from before none is = rw (none refl) (omega arith)
missed low (t ∷ frames) count from before none is = grind (arith, split_all, rise-pop, rise-push)

-- ---- a frame that is looked for by its number
pub found-low : (i : ℕ) (stored : List KeptFrame) (count n : ℕ) → Rise i stored count → n < i → found n stored ≡ []
found-low i [] count n is low = refl
found-low i (t ∷ stored) count n is low = grind (arith, nat_tests, found-low (t.number + 1) stored count n is.1)

pub found-frames : (i : ℕ) (stored : List KeptFrame) (count k : ℕ) → Rise i stored count → get_or (frames_from i stored count) k [] ≡ found (i + k) stored
found-frames i [] count k is = grind (arith, nat_tests, common_steps, get_or-replicate, get_or_past, length-replicate)
found-frames i (t ∷ stored) count k is =
    let later = found-frames (t.number + 1) stored count (k - (t.number - i + 1)) is.1 in
    let low = found-low (t.number + 1) stored count (i + k) is.1 in
    grind (arith, nat_tests, common_steps, later, low, length-replicate, get_or-append_right)

-- a number below, in or above some frames
pub found-high : (i : ℕ) (low high : List KeptFrame) (mid n : ℕ) → Rise i low mid → mid ≤ n → found n (low ++ high) ≡ found n high
found-high i [] high mid n is past = refl
found-high i (t ∷ low) high mid n is past =
    grind (arith, nat_tests, found-high (t.number + 1) low high mid n is.1 past, rise-within (t.number + 1) low mid is.1)

pub found-front : (low high : List KeptFrame) (n : ℕ) → found n high ≡ [] → found n (low ++ high) ≡ found n low
found-front [] high n none = none
found-front (t ∷ low) high n none = cc (found-front low high n none)

found-before : (stored : List KeptFrame) (count n : ℕ) → Rise 0 stored count → (0 < length stored → n < first_number stored) → found n stored ≡ []
found-before [] count n is before = refl
found-before (f ∷ stored) count n is before = grind (arith, found-low f.number (f ∷ stored) count n)

-- the part in the middle has it
found-middle : (a b c : List KeptFrame) (count n : ℕ) → Rise 0 (a ++ (b ++ c)) count → 0 < length b → first_number b ≤ n → found n c ≡ []
    → found n (a ++ (b ++ c)) ≡ found n b
found-middle a b c count n is some from none =
    let r = rise-split 0 a (b ++ c) count is in
    let q = rise-split r.0 b c count r.2 in
    grind (arith, found-high 0 a (b ++ c) r.0 n r.1, found-front b c n, rise-first r.0 b q.0 q.1 some)

pub found-part : (a b c : List KeptFrame) (count n : ℕ) → Rise 0 (a ++ (b ++ c)) count → 0 < length (found n b) → found n (a ++ (b ++ c)) ≡ found n b
found-part a b c count n is some =
    let r = rise-split 0 a (b ++ c) count is in
    let q = rise-split r.0 b c count r.2 in
    let low = found-low r.0 b q.0 n q.1 in
    let high = found-low q.0 c count n q.2 in
    grind (arith, low, high, found-high r.0 b [] q.0 n q.1, append-nil, found-high 0 a (b ++ c) r.0 n r.1, found-front b c n)

-- ---- the blocks
module _ (i : ℕ) (full : List Filled) (last : List KeptFrame) (count : ℕ) (is : Rise i (stored_in full ++ last) count) (p : ℕ) (d : Filled)
    (within : p < length full) where
  three : stored_in full ++ last ≡ stored_in (take p full) ++ ((get_or full p d).frames ++ (stored_in (drop (p + 1) full) ++ last))
  three = grind (arith, take-append-drop p full, drop_more full p d within, flat_map-append, append_assoc)

  parted : Rise i (stored_in (take p full) ++ ((get_or full p d).frames ++ (stored_in (drop (p + 1) full) ++ last))) count
  parted = subst (λ l. Rise i l count) three is

  pub block_rise : Rise i (get_or full p d).frames count
  block_rise = grind (arith, rise-front, rise-back, parted)

-- the numbers of their oldest frames rise
pub firsts-rise : (full : List Filled) (last : List KeptFrame) (count : ℕ) → HaveFrames full → Rise 0 (stored_in full ++ last) count
    → IsNonDecreasingBy (λ (b : Filled). first_number b.frames) full
firsts-rise full last count have is =
    IsNonDecreasingBy-from_all_adjacent (λ (b : Filled). first_number b.frames) full (λ k d next.
    let high : List KeptFrame = stored_in (drop (k + 1) full) ++ last in
    let own = parted 0 full last count is k d (omega (arith, next)) in
    let r = rise-split 0 (get_or full k d).frames high count (rise-back 0 (stored_in (take k full)) ((get_or full k d).frames ++ high) count own) in
    let later = block_rise r.0 (drop (k + 1) full) last count r.2 0 d (omega (arith, length-drop (k + 1) full, next)) in
    let at : get_or (drop (k + 1) full) 0 d ≡ get_or full (k + 1) d = grind (arith, get_or-drop) in
    let after = rise-first r.0 (get_or full (k + 1) d).frames count (rw at at later) in
    grind (arith, rise-first 0 (get_or full k d).frames r.0 r.1, after, have k d, have (k + 1) d))

-- what a block keeps is what all keep
module _ (full : List Filled) (last : List KeptFrame) (count n : ℕ) (have : HaveFrames full) (is : Rise 0 (stored_in full ++ last) count) where
  pub kept_in_block : (p : ℕ) (d : Filled) → p < length full → 0 < length (found n (get_or full p d).frames)
      → found n (get_or full p d).frames ≡ found n (stored_in full ++ last)
  kept_in_block p d within some = grind (arith, found-part, three 0 full last count is p d within, parted 0 full last count is p d within)

  pub kept_in_last : 0 < length (found n last) → found n last ≡ found n (stored_in full ++ last)
  kept_in_last some = grind (arith, found-part (stored_in full) last [] count n, append-nil)

  pub in_last : 0 < length last → first_number last ≤ n → found n last ≡ found n (stored_in full ++ last)
  in_last some from = grind (arith, found-middle (stored_in full) last [] count n, append-nil)

  module _ (after : ℕ) (above : (k : ℕ) (d : Filled) → after ≤ k → k < length full → n < first_number (get_or full k d).frames)
      (past : 0 < length last → n < first_number last) where
    none_above : (blocks : List Filled) → ((k : ℕ) (d : Filled) → k < length blocks → found n (get_or blocks k d).frames ≡ [])
        → found n (stored_in blocks ++ last) ≡ []
    none_above [] none = found-before last count n (rise-back 0 (stored_in full) last count is) past
    none_above (b ∷ blocks) none =
        let later = none_above blocks (λ k d within. none (suc k) d (omega (arith, within))) in
        grind (arith, append_assoc b.frames (stored_in blocks) last, found-front b.frames (stored_in blocks ++ last) n, later, none 0 b)

    pub none_in : (blocks : List Filled) → blocks ≡ drop after full → found n (stored_in blocks ++ last) ≡ []
    none_in blocks same = none_above blocks (λ k d within.
        let fits : after + k < length full = omega (arith, within, ap length same, length-drop after full) in
        grind (arith, get_or-drop after full k d, found-before, block_rise 0 full last count is (after + k) d fits, above (after + k) d))

    pub in_none : after ≡ 0 → found n last ≡ found n (stored_in full ++ last)
    in_none none = grind (arith, found-before, rise-back, none_in full)

    pub in_block : (p : ℕ) (d : Filled) → p < length full → p + 1 ≡ after → first_number (get_or full p d).frames ≤ n
        → found n (get_or full p d).frames ≡ found n (stored_in full ++ last)
    in_block p d within next from =
        let own : List KeptFrame = (get_or full p d).frames in
        let middle = found-middle (stored_in (take p full)) own (stored_in (drop (p + 1) full) ++ last) count n (parted 0 full last count is p d within) in
        grind (arith, middle, three 0 full last count is p d within, have p d within, none_in (drop (p + 1) full))

-- ---- what the goals of a function want, which names it in its attribute
pub ruleset stack_forget_steps = (frames-emptied, length-frames)

pub ruleset stack_keep_known_steps = (
  length-append,
  length-zip_equal,
  newest-push,
  length-kept_row,
  length-kept_place,
  more_stored,
  more_rises,
  more_pixels,
  length-frames,
)

pub ruleset stack_found_steps = (found-frames)

pub ruleset stack_is_stored_steps = (missed)

pub ruleset stack_block_of_steps = (rise-back, block_rise, in_block, in_last, in_none)

pub ruleset stack_begin_stored_steps = (pushed_rises, pushed_stored, rise-grow, frames-next, pushed_pixels)

pub ruleset stack_push_alike_steps = (pushed_stored)

pub ruleset stack_pass_to_steps = (rise-grow, frames-passed, length-frames)
