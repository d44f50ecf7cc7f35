-- What is gathered of a pixel from the triangles of a draw.
use Rattle.std.proofs.Common.{◌≡◌, ◌≢◌, ℕ, zero, suc, ◌+◌, ◌<◌, Bool, true, false, not, IsTrue, List, [], ◌∷◌, length, drop, slice_get, Option, Some}
use Rattle.std.proofs.Common.{None, IfSome, option_map, refl, sym, ap, ◌∙◌, arith, append_assoc, append-nil, if◌then◌else◌, ◌≤◌}
use Rattle.fd_cover.specs.declared.shading.Interp.{Interp}
use Rattle.fd_cover.specs.declared.triangle.Tri.{Tri}
use Rattle.fd_cover.specs.declared.depth.Depth.{Depth}
use Rattle.fd_cover.specs.declared.verdict.Raster.{Raster}
use Rattle.fd_cover.specs.declared.verdict.Rect.{Rect}
use Rattle.fd_cover.specs.declared.verdict.Verdict.{Verdict}
use Rattle.fd_cover.specs.declared.verdict.Verdict.TheVariants.{Missed}
use Rattle.fd_cover.specs.declared.bounds.Bounds.{Bounds}
use Rattle.fd_cover.specs.Bounds.{HoldsCovered, is_within}
use Rattle.fd_cover.proofs.BoundsLemmas.{missed_outside}
use Rattle.fd_cover.specs.Covers.{covers}
use Rattle.fd_cover.specs.Verdict.{verdict_at}
use Rattle.fd_cover.specs.Verdict.{unless_discarded}
use Rattle.fd_events.specs.declared.pipeline.Pipeline.{Pipeline}
use Rattle.fd_events.specs.Bounds.{CoverNone}
use Rattle.fd_events.specs.Draw.{Triangle}
use Rattle.fd_events.specs.Image.{Pixel, is_discarded, verdict_of, pixel_after_triangle}
use Rattle.fd_history.specs.declared.entry.Entry.{Entry}
use Rattle.fd_history.specs.History.{is_missed, entry_of_triangle, entries_of_triangles}
use Rattle.fd_history.specs.Gathered.{Gathering, gone_on, depth_after_triangle, gathered_of_triangle, gathered_of_triangles, past_triangle, past_triangles}

passes_test : (test : Bool) (verdict : Verdict) → (if not test then Missed else verdict) ≢ Missed → IsTrue test
passes_test test verdict hit = grind arith

-- a triangle that is not missed covers the pixel
pub covered_unless_missed : (t : Tri) (depths : List ℕ) (raster : Raster) (rect : Rect) (depth : Depth) (stored x y : ℕ)
    → verdict_at t depths raster rect depth stored x y ≢ Missed → IsTrue (covers t x y)
unfolding verdict_at
covered_unless_missed t depths raster rect depth stored x y hit = passes_test (covers t x y) _ hit

-- the first of the triangles, and then the others
pub first_triangle : (event number : ℕ) (t : Triangle) (ts : List Triangle) (interp : Interp) (s : Pipeline) (g : Gathering)
    → past_triangles event (number + 1) ts interp s (past_triangle event number t interp s g) ≡ past_triangles event number (t ∷ ts) interp s g
first_triangle event number t ts interp s g =
    let after = depth_after_triangle t s g.x g.y g.depth in
    let last = (past_triangles event number (t ∷ ts) interp s g).depth in
    ap (λ es. record { x = g.x; y = g.y; depth = last; entries = es })
    (append_assoc g.entries (gathered_of_triangle event number t interp s g.x g.y g.depth) (gathered_of_triangles event (number + 1) ts interp s g.x g.y after))

-- the same depth, and nothing more
pub gone_nowhere : (g : Gathering) → gone_on g g.depth [] ≡ g
gone_nowhere g = ap (λ es. record { x = g.x; y = g.y; depth = g.depth; entries = es }) (append-nil g.entries)

-- the triangle at a place in the list, and then those behind it
pub next_triangle : (event number i : ℕ) (ts : List Triangle) (interp : Interp) (s : Pipeline) (old new : Gathering) → i < length ts
    → IfSome (slice_get ts i) (λ t. new ≡ past_triangle event number t interp s old)
    → past_triangles event (number + 1) (drop (i + 1) ts) interp s new ≡ past_triangles event number (drop i ts) interp s old
next_triangle event number i [] interp s old new within is = absurd (omega arith)
next_triangle event number zero (t ∷ ts) interp s old new within is = grind (arith, first_triangle)
next_triangle event number (suc i) (t ∷ ts) interp s old new within is =
    let next : suc i + 1 ≡ suc (i + 1) = omega arith in
    rw next (next_triangle event number i ts interp s old new (omega arith) is)

-- it is still the same pixel
pub same_pixel : (event number i : ℕ) (ts : List Triangle) (interp : Interp) (s : Pipeline) (old new : Gathering) → i < length ts
    → IfSome (slice_get ts i) (λ t. new ≡ past_triangle event number t interp s old) → (new.x ≡ old.x) × (new.y ≡ old.y)
same_pixel event number i [] interp s old new within is = absurd (omega arith)
same_pixel event number zero (t ∷ ts) interp s old new within is = (ap (λ (g : Gathering). g.x) is, ap (λ (g : Gathering). g.y) is)
same_pixel event number (suc i) (t ∷ ts) interp s old new within is = same_pixel event number i ts interp s old new (omega arith) is

-- ---- triangles that miss the pixel
past_missed : (event number : ℕ) (t : Triangle) (interp : Interp) (s : Pipeline) (g : Gathering) → verdict_of t s g.x g.y g.depth ≡ Missed
    → g ≡ past_triangle event number t interp s g
past_missed event number t interp s g missed = rw missed (sym (gone_nowhere g))

still_missed : (discarded : Bool) → unless_discarded discarded Missed ≡ Missed
still_missed true = refl
still_missed false = refl

verdict_outside : (t : Triangle) (s : Pipeline) (stored : ℕ) (box : Bounds) (x y : ℕ) → HoldsCovered box t.corners → is_within box x y ≡ false
    → verdict_of t s x y stored ≡ Missed
verdict_outside t s stored box x y holds out =
    ap (unless_discarded (is_discarded t.picture x y)) (missed_outside t.corners t.depths s.raster s.scissor s.depth stored box x y holds out)
    ∙ still_missed (is_discarded t.picture x y)

outside : (found : Option Triangle) (corners : Tri) (box : Bounds) (event number : ℕ) (interp : Interp) (s : Pipeline) (g : Gathering)
    → option_map (λ (t : Triangle). t.corners) found ≡ Some corners → HoldsCovered box corners → is_within box g.x g.y ≡ false
    → IfSome found (λ t. g ≡ past_triangle event number t interp s g)
outside None corners box event number interp s g is holds out = cc
outside (Some t) corners box event number interp s g is holds out = grind (arith, past_missed, verdict_outside)

-- a triangle whose box doesn't hold the pixel
pub outside_triangle : (ts : List Triangle) (i : ℕ) (corners : Tri) (box : Bounds) (event number : ℕ) (interp : Interp) (s : Pipeline) (g : Gathering)
    → option_map (λ (t : Triangle). t.corners) (slice_get ts i) ≡ Some corners → HoldsCovered box corners → is_within box g.x g.y ≡ false
    → IfSome (slice_get ts i) (λ t. g ≡ past_triangle event number t interp s g)
outside_triangle ts i corners box event number interp s g is holds out = outside (slice_get ts i) corners box event number interp s g is holds out

missed_enters : (v : Verdict) (e : Entry) → v ≡ Missed → (if is_missed v then [] else e ∷ []) ≡ []
missed_enters v e missed = rw missed refl

-- ---- triangles that cover nothing of a window with the pixel
missed_uncovered : (t : Triangle) (s : Pipeline) (x y stored : ℕ) → covers t.corners x y ≡ false → verdict_of t s x y stored ≡ Missed
unfolding verdict_at
missed_uncovered t s x y stored uncovered = rw uncovered (still_missed (is_discarded t.picture x y))

-- triangles that don't cover the pixel enter nothing
pub uncovered_triangles : (ts : List Triangle) (event number : ℕ) (interp : Interp) (s : Pipeline) (x y : ℕ) (before : Pixel)
    → ((i : ℕ) (t : Triangle) → slice_get ts i ≡ Some t → covers t.corners x y ≡ false) → entries_of_triangles event number ts interp s x y before ≡ []
uncovered_triangles [] event number interp s x y before uncovered = refl
uncovered_triangles (t ∷ ts) event number interp s x y before uncovered =
    let after = pixel_after_triangle t interp s x y before in
    let missed = missed_uncovered t s x y before.1 (uncovered 0 t refl) in
    let rest = uncovered_triangles ts event (number + 1) interp s x y after (λ i u at. uncovered (suc i) u at) in
    cc (missed_enters (verdict_of t s x y before.1) (entry_of_triangle event number t interp s x y before) missed, rest)

module _ (ts : List Triangle) (window : Bounds) (event : ℕ) (interp : Interp) (s : Pipeline) (g : Gathering) (within : IsTrue (is_within window g.x g.y)) where
  missed_at : (i : ℕ) → (found : Option Triangle) → slice_get ts i ≡ found → CoverNone window ts i (i + 1)
      → IfSome found (λ t. g ≡ past_triangle event i t interp s g)
  missed_at i None is none = tt
  missed_at i (Some t) is none = grind (arith, past_missed, missed_uncovered)

  -- they lead nowhere
  pub passed_over : (i count : ℕ) → i + count ≤ length ts → CoverNone window ts i (i + count)
      → past_triangles event (i + count) (drop (i + count) ts) interp s g ≡ past_triangles event i (drop i ts) interp s g
  passed_over i zero there none = ap (λ n. past_triangles event n (drop n ts) interp s g) {x = i + zero} {y = i} (omega arith)
  passed_over i (suc count) there none =
      let next : i + suc count ≡ i + count + 1 = omega arith in
      ap (λ n. past_triangles event n (drop n ts) interp s g) next
      ∙ next_triangle event (i + count) (i + count) ts interp s g g (omega (arith, there))
      (missed_at (i + count) (slice_get ts (i + count)) refl (λ k t from to at. none k t (omega (arith, from)) (omega (arith, to)) at))
      ∙ passed_over i count (omega (arith, there)) (λ k t from to at. none k t from (omega (arith, to)) at)
