-- Frames that many stacks share, which keep all of a place.
use Rattle.std.proofs.Common.{◌≡◌, ◌≢◌, ℕ, zero, suc, ◌+◌, ◌-◌, ◌*◌, ◌<◌, ◌≤◌, ◌^◌, ◌∙◌, List, [], ◌∷◌, ◌++◌, length, get_or, take, refl, sym, subst, ap}
use Rattle.std.proofs.Common.{Option, Some, None, append_assoc, true, arith}
use Rattle.std.proofs.Math.Nat.{zero-mul, suc-mul}
use Rattle.std.proofs.lemmas.Bool.Decides.{nat_tests}
use Rattle.std.proofs.lemmas.List.{length-take, take-take, append-nil, length-map, get_or-map, get_or-take, take-map}
use Rattle.fd_blend.specs.declared.channel.Colour.{Colour}
use Rattle.fd_blend.specs.Channel.{fresh}
use Rattle.fd_tile.specs.declared.place.Place.{Place}
use Rattle.fd_undo.specs.declared.shared.AlikeFrame.{AlikeFrame}
use Rattle.fd_undo.specs.Span.{Span}
use Rattle.fd_undo.specs.Frame.{alike, KeepsAll}
use Rattle.fd_undo.specs.Rows.{rows_in, joined, IsHeld}
use Rattle.fd_undo.specs.Block.{KeptFrame, Filled, no_frame, newest, others, found, Rise}
use Rattle.fd_undo.specs.Stack.{stored_in, all_stored, pixels_stored}
use Rattle.fd_undo.specs.Alike.{alike_frame, kept_alike, based, no_alike, alike_number, AlikeRise}
use Rattle.fd_undo.proofs.FrameLemmas.{others-newest}
use Rattle.fd_undo.proofs.BlockLemmas.{rise-place, found-place}
use Rattle.fd_undo.proofs.StackLemmas.{frames-lower, rise-lower, rise-back, rise-front, rise-split, rise-pop, rise-push}
use Rattle.fd_undo.proofs.StackLemmas.{length-frames, found-part, found-front, found-low, found-high}
use Rattle.fd_undo.proofs.Pixelwise.{zip-replicate, length-alike, kept_at-alike}
use Rattle.std.proofs.lemmas.List.Sums.{sum_by-cons}
use Rattle.std.proofs.lemmas.List.Concat.{flat_map-append}

-- ---- the frames of a place
module _ (p : Place) where
  pub length-kept_alike : (fs : List AlikeFrame) → length (kept_alike p fs) ≡ length fs
  length-kept_alike fs = length-map fs (alike_frame p)

  pub alike-at : (fs : List AlikeFrame) (a : ℕ) → a < length fs → get_or (kept_alike p fs) a no_frame ≡ alike_frame p (get_or fs a (no_alike fresh))
  alike-at fs a within = get_or-map (alike_frame p) fs a (no_alike fresh) no_frame within

  pub newest-alike : (fs : List AlikeFrame) (n : ℕ) → 0 < n → n ≤ length fs
      → newest (kept_alike p (take n fs)) ≡ alike_frame p (get_or fs (n - 1) (no_alike fresh))
  newest-alike fs n some within = grind (arith, length-kept_alike, length-take, alike-at, get_or-take)

  pub others-alike : (fs : List AlikeFrame) (n : ℕ) → 0 < n → n ≤ length fs → others (kept_alike p (take n fs)) ≡ kept_alike p (take (n - 1) fs)
  others-alike fs n some within = grind (arith, length-kept_alike, length-take, take-map (alike_frame p) n fs, take-map, take-take)

  pub rise-alike : (fs : List AlikeFrame) (i count : ℕ) → Rise i (kept_alike p fs) count → AlikeRise fs
  rise-alike fs i count is = record {
    rises = λ a b low high. grind (arith, alike-at, length-kept_alike, (rise-place (kept_alike p fs) i count a is (grind (arith, length-kept_alike))).1 b);
  }

  pub found-alike : (fs : List AlikeFrame) (i count a n : ℕ) → Rise i (kept_alike p fs) count → a < length fs → alike_number fs a ≡ n
      → found n (kept_alike p fs) ≡ (alike_frame p (get_or fs a (no_alike fresh))).kept
  found-alike fs i count a n is within at = grind (arith, alike-at, length-kept_alike, found-place (kept_alike p fs) i count a is)

  pub found-other : (fs : List AlikeFrame) (n : ℕ) → ((a : ℕ) → a < length fs → alike_number fs a ≢ n) → found n (kept_alike p fs) ≡ []
  found-other [] n none = refl
  found-other (f ∷ fs) n none = grind (arith, nat_tests, none 0, found-other fs n (λ a within. none (suc a) (omega (arith, within))))

  -- each keeps all of it
  pub keeps-alike : (c : Colour) (d : ℕ) → KeepsAll p (alike p (c, d))
  keeps-alike c d x y held = grind (arith, kept_at-alike p (c, d) x y held)

  pub whole_at : (fs : List AlikeFrame) (n a i count number : ℕ) → Rise i (kept_alike p (take n fs)) count → a < n → n ≤ length fs
      → number ≡ alike_number fs a → KeepsAll p (found number (kept_alike p (take n fs)))
  whole_at fs n a i count number is below within at =
      let is_at : alike_number (take n fs) a ≡ number = grind (arith, get_or-take n fs a (no_alike fresh)) in
      let own = found-alike (take n fs) i count a number is (omega (arith, below, within, length-take n fs)) is_at in
      let f : AlikeFrame = get_or (take n fs) a (no_alike fresh) in
      rw own (keeps-alike f.colour f.depth)

  pub pixels-alike : (fs : List AlikeFrame) → pixels_stored (kept_alike p fs) ≡ length fs * (p.height * p.width)
  pixels-alike [] = sym (zero-mul (p.height * p.width))
  pixels-alike (f ∷ fs) =
      omega (
        arith,
        sum_by-cons (λ (k : KeptFrame). length k.kept) (alike_frame p f) (kept_alike p fs),
        length-alike p (f.colour, f.depth),
        pixels-alike fs,
        suc-mul (length fs) (p.height * p.width),
      )

-- ---- one of them by itself
module _ (p : Place) (c : Colour) (d : ℕ) where
  abbrev over : Span
  over = record { x = p.left; y = p.top; len = p.width; rows = p.height; one_colour = true; same_depth = Some d }

  pub alone-held : IsHeld (over ∷ []) (c ∷ []) []
  alone-held = record { colours_counted = refl; depths_counted = refl }

  pub alone-kept : joined (rows_in (over ∷ []) (c ∷ []) []) ≡ alike p (c, d)
  alone-kept = grind (arith, append-nil, zip-replicate)

pub ruleset shared_steps = (newest-alike, others-alike, rise-alike, found-alike, found-other, keeps-alike, length-alike, length-kept_alike)

pub ruleset alone_steps = (alone-held, alone-kept)

-- ---- shared frames below those of a stack's own
module _ (base : Option (List KeptFrame)) (full : List Filled) (last : Filled) where
  pub both : all_stored (based base ++ full) last ≡ stored_in (based base) ++ all_stored full last
  both = grind (arith, flat_map-append, append_assoc)

  pub none_own : all_stored (based base ++ full) last ≡ [] → all_stored full last ≡ []
  none_own none = nil_right (stored_in (based base)) (all_stored full last) (sym both ∙ none)
    where
      nil_right : (xs ys : List KeptFrame) → xs ++ ys ≡ [] → ys ≡ []
      nil_right [] ys none = none
      nil_right (x ∷ xs) ys none = absurd cc

  pub alone_below : (b : List KeptFrame) → all_stored (based base ++ full) last ≡ [] → all_stored (based (Some b) ++ full) last ≡ b
  alone_below b none = append_assoc b (stored_in full) last.frames ∙ ap (λ l. b ++ l) (none_own none) ∙ append-nil b

  module _ (count : ℕ) (is : Rise 0 (all_stored (based base ++ full) last) count) where
    rise : Rise 0 (stored_in (based base) ++ all_stored full last) count
    rise = rw both at is

    pub own_rise : Rise 0 (all_stored full last) count
    own_rise = rise-back 0 (stored_in (based base)) (all_stored full last) count rise

    pub base_rise : (b : List KeptFrame) → base ≡ Some b → Rise 0 b count
    base_rise b same = rw append-nil at (rw same at (rise-front 0 (stored_in (based base)) (all_stored full last) count rise))

    pub part_own : (n : ℕ) → 0 < length (found n (all_stored full last)) → found n (all_stored full last) ≡ found n (all_stored (based base ++ full) last)
    part_own n some = grind (arith, found-part (stored_in (based base)) (all_stored full last) [] count n, append-nil, both, rise)

    pub part_base : (b : List KeptFrame) (n : ℕ) → base ≡ Some b → 0 < length (found n b) → found n b ≡ found n (all_stored (based base ++ full) last)
    part_base b n same some = grind (arith, found-part [] b (all_stored full last) count n, append-nil, both, rise)

    -- a number below those of its own, or above the shared ones
    module _ (b : List KeptFrame) (n : ℕ) (same : base ≡ Some b) (some : 0 < length b) where
      below : Rise 0 b ((newest b).number + 1) × Rise ((newest b).number + 1) (all_stored full last) count
      below =
          let parts = rise-split 0 b (all_stored full last) count (rw append-nil at (rw same at rise)) in
          let e = others-newest b no_frame some in
          let pop = rise-pop 0 (others b) (newest b) parts.0 (subst (λ l. Rise 0 l parts.0) e parts.1) in (
            subst (λ l. Rise 0 l ((newest b).number + 1)) (sym e) (rise-push 0 (others b) (newest b) ((newest b).number + 1) pop.0 (omega arith)),
            rise-lower ((newest b).number + 1) parts.0 (all_stored full last) count parts.2 pop.1,
          )

      pub in_base : n ≤ (newest b).number → found n (all_stored (based base ++ full) last) ≡ found n b
      in_base low = grind (arith, both, append-nil, found-front b (all_stored full last) n, found-low, below)

      pub in_own : (newest b).number < n → found n (all_stored (based base ++ full) last) ≡ found n (all_stored full last)
      in_own high = grind (arith, both, append-nil, found-high 0 b (all_stored full last), below)

    pub in_own_alone : (n : ℕ) → base ≡ None → found n (all_stored (based base ++ full) last) ≡ found n (all_stored full last)
    in_own_alone n none = rw none refl

-- ---- a stack that stores none takes them
-- as many as the numbers below the last allow
length-rise : (i : ℕ) (stored : List KeptFrame) (count : ℕ) → Rise i stored count → i + length stored ≤ count
length-rise i [] count is = omega (arith, is)
length-rise i (f ∷ stored) count is = omega (arith, is.0, length-rise (f.number + 1) stored count is.1)

pub few_pixels : (p : Place) (fs : List AlikeFrame) (i count : ℕ) → Rise i (kept_alike p fs) count → count < 2 ^ 32 → length fs < 2 ^ 32
few_pixels p fs i count is small = omega (arith, length-rise i (kept_alike p fs) count is, length-kept_alike p fs)

pub ruleset stack_share_steps = (few_pixels, pixels-alike, frames-lower, rise-lower, length-frames)

pub ruleset base_steps = (own_rise, base_rise, in_base, in_own, in_own_alone)
