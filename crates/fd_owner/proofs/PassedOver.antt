-- Events whose reach misses a place, or whose state lets them draw nothing there, write nothing there.
use Rattle.std.proofs.Common.{◌≡◌, ℕ, suc, ◌+◌, ◌<◌, ◌≤◌, Bool, true, false, cond, add-one, ◌∙◌, ap, sym, inl, inr, List, length, Option, Some, None, refl}
use Rattle.std.proofs.Common.{arith, slice_get, option_map, subst, []}
use Rattle.std.specs.Prelude.{IsTrue, IfSome}
use Rattle.std.proofs.lemmas.Bool.{cases_lt}
use Rattle.fd_cover.specs.Bounds.{is_within}
use Rattle.fd_cover.specs.declared.bounds.Bounds.{Bounds}
use Rattle.fd_tile.specs.declared.place.Place.{Place}
use Rattle.fd_tile.specs.Place.{Holds, IsTilePlace}
use Rattle.fd_events.specs.declared.event.Event.{Event}
use Rattle.fd_events.specs.declared.event.Event.TheVariants.{Clear, DepthClear, Draw}
use Rattle.fd_events.specs.declared.pipeline.Pipeline.{Pipeline}
use Rattle.fd_events.specs.Bounds.{may_colour}
use Rattle.fd_events.specs.Draw.{Triangle, triangles_of}
use Rattle.fd_events.specs.Far.{LeavesAlone, IsFar, AreFar}
use Rattle.fd_events.specs.Image.{Pixel, pixel_after_event, kept_by_event}
use Rattle.fd_events.specs.Reach.{reach_of}
use Rattle.fd_events.specs.Table.{Table, active_event, event_at, is_set, state_at}
use Rattle.fd_events.proofs.ReachLemmas.{outside_reach}
use Rattle.fd_draw.specs.Area.{box_of_place}
use Rattle.fd_draw.proofs.Areas.{within_from}
use Rattle.fd_draw.specs.Plan.{AreUnreached, WritesNothing}
use Rattle.fd_draw.proofs.Nothing.{nothing_unreached}
use Rattle.fd_owner.specs.Untouched.{IsUntouched, AreUntouched, Misses}
use Rattle.fd_owner.specs.Shown.{IsInside}

-- a box holds no pixel of a place if it holds none of the place's box
pub misses_from : (box window : Bounds) (place : Place) → window ≡ box_of_place place
    → ((x y : ℕ) → IsTrue (is_within window x y) → is_within box x y ≡ false) → Misses box place
misses_from box window place is apart x y held =
    apart x y (rw is (within_from (box_of_place place) x y held.from_left held.to_right held.from_top held.to_bottom))

-- on a target that a place lies in, in the place
module _ (place : Place) (width height : ℕ) (placed : IsTilePlace place) (right : place.left + place.width ≤ width)
    (bottom : place.top + place.height ≤ height) where
  in_target : (x y : ℕ) → Holds place x y → (x < width) × (y < height)
  in_target x y held = (omega (arith, held.to_right, right), omega (arith, held.to_bottom, bottom))

  first_held : Holds place place.left place.top
  first_held = record { from_left = omega arith; to_right = omega (arith, placed.wide); from_top = omega arith; to_bottom = omega (arith, placed.high) }

  unreached : (ts : List Triangle) (s : Pipeline)
      → ((x y : ℕ) → Holds place x y → (i : ℕ) (t : Triangle) → slice_get ts i ≡ Some t → may_colour t x y ≡ false)
      → AreUnreached ts s place 0 (length ts)
  unreached ts s alone i t from to at x y held = rw (alone x y held i t at) refl

  left_alone : (event : Event) (s : Pipeline) → ((x y : ℕ) → Holds place x y → LeavesAlone event x y) → WritesNothing event s place
  left_alone (Clear colour) s alone = absurd (alone place.left place.top first_held)
  left_alone (DepthClear depth) s alone = absurd (alone place.left place.top first_held)
  left_alone (Draw draw) s alone = nothing_unreached draw s place (unreached (triangles_of draw) s alone)
  left_alone other s alone = λ x y before held. (refl, refl)

  -- the event may be missing, and is far from the place's box
  left_far : (window : Bounds) → window ≡ box_of_place place → (event : Option Event) (s : Pipeline)
      → IfSome event (λ event. (x y : ℕ) → IsTrue (is_within window x y) → x < width → y < height → LeavesAlone event x y)
      → (x y : ℕ) (before : Pixel) → Holds place x y → (pixel_after_event event s x y before ≡ before) × (kept_by_event event s x y before ≡ [])
  left_far window is None s far = λ x y before held. (refl, refl)
  left_far window is (Some event) s far = left_alone event s (λ x y held.
      let on = in_target x y held in
      far x y (rw is (within_from (box_of_place place) x y held.from_left held.to_right held.from_top held.to_bottom)) on.0 on.1)

pub untouched_far : (table : Table) (k : ℕ) (window : Bounds) (place : Place) → IsTilePlace place → IsInside place table → window ≡ box_of_place place
    → IsFar table k window → IsUntouched table k place
untouched_far table k window place placed inside is far = record {
  stays = left_far place table.width table.height placed inside.right inside.bottom window is (active_event table (suc k)) (state_at table k) far;
}

pub untouched_from : (table : Table) (from to : ℕ) (window : Bounds) (place : Place) → IsTilePlace place → IsInside place table
    → window ≡ box_of_place place → AreFar table from to window → AreUntouched table from to place
untouched_from table from to window place placed inside is far k above below = untouched_far table k window place placed inside is (far k above below)

-- ---- an event whose box holds no pixel of a place

module _ (table : Table) (place : Place) (box : Bounds) (misses : Misses box place) (placed : IsTilePlace place) (inside : IsInside place table) where
  missed : (on : Bool) (event : Option Event) (s : Pipeline) → option_map (reach_of table.width table.height) event ≡ Some box
      → (x y : ℕ) (before : Pixel) → Holds place x y
      → (pixel_after_event (cond on event None) s x y before ≡ before) × (kept_by_event (cond on event None) s x y before ≡ [])
  missed false event s is = λ x y before held. (refl, refl)
  missed true None s is = λ x y before held. (refl, refl)
  missed true (Some event) s is =
      let same : reach_of table.width table.height event ≡ box = cc in
      left_alone place table.width table.height placed inside.right inside.bottom event s (λ x y held.
      let on = in_target place table.width table.height placed inside.right inside.bottom x y held in
      outside_reach table.width table.height event x y on.0 on.1 (subst (λ (b : Bounds). is_within b x y ≡ false) (sym same) (misses x y held)))

  pub untouched_missed : (k : ℕ) → option_map (reach_of table.width table.height) (event_at table (suc k)) ≡ Some box → IsUntouched table k place
  untouched_missed k is = record { stays = missed (is_set table.flags (suc k)) (event_at table (suc k)) (state_at table k) is }

-- ---- an event that writes nothing in the state before it

chosen : (on : Bool) (event : Event) (s : Pipeline) (place : Place) → WritesNothing event s place → (x y : ℕ) (before : Pixel) → Holds place x y
    → (pixel_after_event (cond on (Some event) None) s x y before ≡ before) × (kept_by_event (cond on (Some event) None) s x y before ≡ [])
chosen true event s place nothing = nothing
chosen false event s place nothing = λ x y before held. (refl, refl)

pub untouched_idle : (table : Table) (k : ℕ) (event : Event) (s : Pipeline) (place : Place) → event_at table (k + 1) ≡ Some event → s ≡ state_at table k
    → WritesNothing event s place → IsUntouched table k place
untouched_idle table k event s place there before nothing =
    let at : event_at table (suc k) ≡ Some event = ap (event_at table) (sym (add-one k)) ∙ there in
    let on = is_set table.flags (suc k) in
    let is : active_event table (suc k) ≡ cond on (Some event) None = ap (λ (e : Option Event). cond on e None) at in
    record { stays = λ x y pixel held. rw (is, ← before) (chosen on event s place nothing x y pixel held) }

-- what was passed over so far, and more
pub untouched_on : (table : Table) (from mid to : ℕ) (place : Place) → AreUntouched table from mid place → AreUntouched table mid to place
    → AreUntouched table from to place
untouched_on table from mid to place first more k above below = elim (cases_lt k mid) [
  | inl before ↦ first k above before
  | inr after ↦ more k after below
]
