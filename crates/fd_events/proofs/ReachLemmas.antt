-- What an event leaves outside its reach.
use Rattle.std.proofs.Common.{◌≡◌, ◌≢◌, ℕ, suc, ◌<◌, ◌&&◌, Bool, true, false, ◌⊎◌, inl, inr, List, [], length, get_or, replicate, slice_get, Option, Some}
use Rattle.std.proofs.Common.{None, option_map, refl, sym, ap, ◌∙◌, subst, arith}
use Rattle.std.specs.Prelude.{IfSome, not, map, slice_set}
use Rattle.std.proofs.lemmas.Bool.{cases_eq}
use Rattle.std.proofs.lemmas.Bool.Decides.{nat_tests}
use Rattle.std.proofs.lemmas.List.{length-map, length-set, get_or-map, get_or-replicate, get_or-set_same, get_or-set_other}
use Rattle.std.proofs.lemmas.Option.{slice_get-map, slice_get-get_or, unwrap_or-slice_get}
use Rattle.fd_cover.specs.declared.bounds.Bounds.{Bounds}
use Rattle.fd_cover.specs.Bounds.{is_within, is_empty}
use Rattle.fd_events.specs.declared.event.Event.{Event}
use Rattle.fd_events.specs.declared.event.Event.TheVariants.{Clear, DepthClear, Draw}
use Rattle.fd_events.specs.declared.pipeline.Pipeline.{Pipeline}
use Rattle.fd_events.specs.Bounds.{bounds_of_triangles}
use Rattle.fd_events.specs.Draw.{triangles_of}
use Rattle.fd_events.specs.Far.{LeavesAlone}
use Rattle.fd_events.specs.Image.{Pixel, pixel_after, kept_by}
use Rattle.fd_events.specs.Picture.{clipped_to}
use Rattle.fd_events.specs.declared.reach.Reach.{Reach}
use Rattle.fd_events.specs.Reach.{clipped_box, reach_of, box_of, nowhere, may_write, AreReaches, AreWriters, HoldsWritten}
use Rattle.fd_events.specs.Table.{is_set}
use Rattle.fd_events.proofs.BoundsLemmas.{bounds_of_triangles-holds, pixel_after_triangles-uncoloured, kept_by_triangles-uncoloured, uncoloured_outside}

-- a pixel of the target that the clipped box leaves out
pub outside_clipped : (box : Bounds) (width height x y : ℕ) → x < width → y < height → is_within (clipped_box width height box) x y ≡ false
    → is_within box x y ≡ false
outside_clipped box width height x y column row outside = grind (arith, nat_tests)

-- the box of the whole target leaves out none
pub in_whole : (width height x y : ℕ) → x < width → y < height → is_within (record { left = 0; top = 0; right = width; bottom = height }) x y ≡ true
in_whole width height x y column row = grind (arith, nat_tests)

-- what lies outside the box of an event is left alone by it
pub outside_reach : (width height : ℕ) (event : Event) (x y : ℕ) → x < width → y < height → is_within (reach_of width height event) x y ≡ false
    → LeavesAlone event x y
outside_reach width height (Clear colour) x y column row out = let inside = in_whole width height x y column row in cc (inside, out)
outside_reach width height (DepthClear depth) x y column row out = let inside = in_whole width height x y column row in cc (inside, out)
outside_reach width height (Draw draw) x y column row out =
    let box = bounds_of_triangles (triangles_of draw) in
    uncoloured_outside draw box x y (bounds_of_triangles-holds (triangles_of draw))
    (outside_clipped (clipped_to draw.picture box) width height x y column row out)
outside_reach width height other x y column row out = tt

-- what is left alone stays as it is, and nothing of it is kept
alone-unwritten : (event : Event) (state : Pipeline) (x y : ℕ) (before : Pixel) → LeavesAlone event x y
    → (pixel_after event state x y before ≡ before) × (kept_by event state x y before ≡ [])
alone-unwritten (Clear colour) state x y before alone = absurd alone
alone-unwritten (DepthClear depth) state x y before alone = absurd alone
alone-unwritten (Draw draw) state x y before alone = (
  pixel_after_triangles-uncoloured (triangles_of draw) draw.interp state x y before alone,
  kept_by_triangles-uncoloured (triangles_of draw) draw.interp state x y before alone,
)
alone-unwritten other state x y before alone = (refl, refl)

pub reach-holds : (width height : ℕ) (event : Event) → HoldsWritten (reach_of width height event) width height event
reach-holds width height event state x y before column row outside =
    alone-unwritten event state x y before (outside_reach width height event x y column row outside)

-- one box is kept for each event
pub length-reaches : (width height : ℕ) (events : List Event) (reaches : List Reach) → AreReaches width height events reaches → length reaches ≡ length events
length-reaches width height events reaches are = sym (length-map reaches box_of) ∙ ap length are ∙ length-map events (reach_of width height)

pub reach_at : (width height : ℕ) (events : List Event) (reaches : List Reach) (n : ℕ) (reach : Reach) → AreReaches width height events reaches
    → slice_get reaches n ≡ Some reach
    → option_map (reach_of width height) (slice_get events n) ≡ Some (box_of reach)
reach_at width height events reaches n reach are at =
    sym (slice_get-map (reach_of width height) events n) ∙ ap (λ boxes. slice_get boxes n) (sym are) ∙ slice_get-map box_of reaches n
    ∙ ap (option_map box_of) at

-- whether it may write, by its box
may_write_by : (width height : ℕ) (on : Bool) (found : Option Event) (box : Bounds) → option_map (reach_of width height) found ≡ Some box
    → option_map (may_write width height on) found ≡ Some (on && not (is_empty box))
may_write_by width height on found box is = grind arith

pub writer_at : (width height : ℕ) (events : List Event) (flags writers : List Bool) (reaches : List Reach) (n : ℕ) → AreReaches width height events reaches
    → AreWriters flags reaches writers
    → n < length reaches → option_map (may_write width height (is_set flags (suc n))) (slice_get events n) ≡ Some (get_or writers n false)
writer_at width height events flags writers reaches n are writing within =
    may_write_by width height (is_set flags (suc n)) (slice_get events n) (box_of (get_or reaches n nowhere))
    (reach_at width height events reaches n (get_or reaches n nowhere) are (slice_get-get_or reaches n nowhere within))
    ∙ ap (λ on. Some (on && not (is_empty (box_of (get_or reaches n nowhere))))) (unwrap_or-slice_get flags n false)
    ∙ ap (λ (b : Bool). Some b) (sym (writing.each n within))

-- where all are switched on
pub AreWriters-all_on : (reaches : List Reach) (n : ℕ) → n ≡ length reaches
    → AreWriters (replicate n true) reaches (map (λ reach. not (is_empty (box_of reach))) reaches)
AreWriters-all_on reaches n size = record {
  number = length-map reaches (λ reach. not (is_empty (box_of reach)));
  each = λ k within.
      get_or-map (λ (reach : Reach). not (is_empty (box_of reach))) reaches k nowhere false within
      ∙ ap (λ on. on && not (is_empty (box_of (get_or reaches k nowhere)))) (sym (get_or-replicate n k true false (omega arith)));
}

-- where one is switched
pub AreWriters-set : (flags writers : List Bool) (reaches : List Reach) (n : ℕ) (on : Bool) → AreWriters flags reaches writers → n < length flags
    → n < length reaches
    → AreWriters (slice_set flags n on) reaches (slice_set writers n (on && not (is_empty (box_of (get_or reaches n nowhere)))))
AreWriters-set flags writers reaches n on are flagged within = record {
  number = length-set writers n (on && not (is_empty (box_of (get_or reaches n nowhere)))) ∙ are.number;
  each = λ k below. at k below (cases_eq k n);
}
  where
    now : Bool
    now = on && not (is_empty (box_of (get_or reaches n nowhere)))

    at : (k : ℕ) → k < length reaches → (k ≡ n) ⊎ (k ≢ n)
        → get_or (slice_set writers n (on && not (is_empty (box_of (get_or reaches n nowhere))))) k false
        ≡ (get_or (slice_set flags n on) k false && not (is_empty (box_of (get_or reaches k nowhere))))
    at k below (inl same) =
        let there : n < length writers = omega (arith, are.number) in
        ap (λ j. get_or (slice_set writers n now) j false) same
        ∙ get_or-set_same writers n now false there
        ∙ ap (λ b. b && not (is_empty (box_of (get_or reaches n nowhere)))) (sym (get_or-set_same flags n on false flagged))
        ∙ ap (λ j. get_or (slice_set flags n on) j false && not (is_empty (box_of (get_or reaches j nowhere)))) (sym same)
    at k below (inr other) =
        get_or-set_other writers n k now false other
        ∙ are.each k below
        ∙ ap (λ b. b && not (is_empty (box_of (get_or reaches k nowhere)))) (sym (get_or-set_other flags n k on false other))

-- so for the box that a table gives
pub reach_is-holds : (width height : ℕ) (found : Option Event) (box : Bounds) → option_map (reach_of width height) found ≡ Some box
    → IfSome found (HoldsWritten box width height)
reach_is-holds width height None box is = absurd (cc)
reach_is-holds width height (Some event) box is =
    let same : reach_of width height event ≡ box = cc in
    subst (λ b. HoldsWritten b width height event) same (reach-holds width height event)
