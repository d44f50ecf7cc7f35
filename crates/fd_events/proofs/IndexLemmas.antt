-- The index of a frame's events.
use Rattle.std.proofs.Common.{◌≡◌, ℕ, suc, ◌+◌, ◌<◌, Bool, true, false, cond, Option, Some, None, option_map, slice_get, refl, sym, subst, inl, inr, List}
use Rattle.std.proofs.Common.{ap, ◌∙◌, arith}
use Rattle.std.specs.Prelude.{IfSome, IsTrue}
use Rattle.std.specs.List.{Contains}
use Rattle.std.specs.List.Sorted.{IsNonDecreasing}
use Rattle.std.proofs.lemmas.Bool.{false_from_ne_true}
use Rattle.std.proofs.lemmas.Bool.Decides.{nat_tests}
use Rattle.std.proofs.lemmas.Option.{slice_get_within}
use Rattle.fd_cover.specs.declared.bounds.Bounds.{Bounds}
use Rattle.fd_cover.specs.Bounds.{is_within}
use Rattle.fd_cover.specs.Covers.{covers}
use Rattle.fd_events.specs.declared.event.Event.{Event}
use Rattle.fd_events.specs.declared.event.Event.TheVariants.{Clear, DepthClear, Draw}
use Rattle.fd_events.specs.declared.index.EventIndex.{EventIndex}
use Rattle.fd_events.specs.Draw.{triangles_of}
use Rattle.fd_events.specs.Reach.{reach_of, may_write, may_write_at}
use Rattle.fd_events.specs.Table.{Table, is_set, event_at, active_event}
use Rattle.fd_events.specs.declared.cells.CellGrid.{CellGrid}
use Rattle.fd_events.specs.declared.packed.Packed.{Packed}
use Rattle.fd_events.specs.Cells.{HasCell, cell_at, cell_count}
use Rattle.fd_events.specs.Index.{ListsPixel, ListsEvent, ListEvents, IsIndex, IsUnlisted, IsPassedOver}
use Rattle.fd_events.specs.Numbers.{AreOrdered, Grow, listed_at}
use Rattle.fd_events.specs.Packed.{listed_in}
use Rattle.fd_events.specs.Far.{LeavesAlone, PassesBy, IsFar, ArePassedBy}
use Rattle.fd_events.proofs.Images.{at_number-next}
use Rattle.fd_events.proofs.ReachLemmas.{outside_reach}

-- ---- lists that grow keep what they list

pub ListsPixel-grown : (grid : CellGrid) (before after : List (List ℕ)) (number event x y : ℕ) → Grow number before after
    → ListsPixel grid (listed_at before) event x y → ListsPixel grid (listed_at after) event x y
ListsPixel-grown grid before after number event x y grown lists has = elim (lists has) [
  | inl cell ↦ inl (grown.kept (cell_at grid x y) event cell)
  | inr wide ↦ inr (grown.kept (cell_count grid) event wide)
]

pub ListsEvent-grown : (grid : CellGrid) (before after : List (List ℕ)) (number other : ℕ) (event : Event) → Grow number before after
    → ListsEvent grid (listed_at before) other event → ListsEvent grid (listed_at after) other event
ListsEvent-grown grid before after number other (Clear colour) grown lists = grown.kept (cell_count grid) other lists
ListsEvent-grown grid before after number other (DepthClear depth) grown lists = grown.kept (cell_count grid) other lists
ListsEvent-grown grid before after number other (Draw draw) grown lists = λ i t below at x y covered.
    ListsPixel-grown grid before after number other x y grown (lists i t below at x y covered)
ListsEvent-grown grid before after number other event grown lists = tt

-- ---- the same lists, packed

ListsPixel-same : (grid : CellGrid) (listed same : ℕ → List ℕ) (event x y : ℕ) → ((cell : ℕ) → same cell ≡ listed cell)
    → ListsPixel grid listed event x y → ListsPixel grid same event x y
ListsPixel-same grid listed same event x y are lists has = elim (lists has) [
  | inl cell ↦ inl (subst (λ (xs : List ℕ). Contains xs event) (sym (are (cell_at grid x y))) cell)
  | inr wide ↦ inr (subst (λ (xs : List ℕ). Contains xs event) (sym (are (cell_count grid))) wide)
]

ListsEvent-same : (grid : CellGrid) (listed same : ℕ → List ℕ) (number : ℕ) (event : Event) → ((cell : ℕ) → same cell ≡ listed cell)
    → ListsEvent grid listed number event → ListsEvent grid same number event
ListsEvent-same grid listed same number (Clear colour) are lists = subst (λ (xs : List ℕ). Contains xs number) (sym (are (cell_count grid))) lists
ListsEvent-same grid listed same number (DepthClear depth) are lists = subst (λ (xs : List ℕ). Contains xs number) (sym (are (cell_count grid))) lists
ListsEvent-same grid listed same number (Draw draw) are lists = λ i t below at x y covered.
    ListsPixel-same grid listed same number x y are (lists i t below at x y covered)
ListsEvent-same grid listed same number other are lists = tt

pub packed_events : (grid : CellGrid) (lists : List (List ℕ)) (found : Option Packed) (count : ℕ) (events : List Event)
    → IfSome found (λ packed. (cell : ℕ) → listed_in packed cell ≡ listed_at lists cell) → AreOrdered count lists
    → ((number : ℕ) (event : Event) → slice_get events number ≡ Some event → ListsEvent grid (listed_at lists) number event)
    → IfSome found (λ packed. ListEvents grid (listed_in packed) events)
packed_events grid lists None count events are ordered all = tt
packed_events grid lists (Some packed) count events are ordered all = record {
  rise = λ cell. subst (λ (xs : List ℕ). IsNonDecreasing xs) (sym (are cell)) (ordered.rise cell);
  lists = λ number event at. ListsEvent-same grid (listed_at lists) (listed_in packed) number event are (all number event at);
}

-- ---- what the index passes over has nothing to do with the window

passed : (grid : CellGrid) (listed : ℕ → List ℕ) (number : ℕ) (event : Event) (x y : ℕ) → ListsEvent grid listed number event → HasCell grid x y
    → (Contains (listed (cell_at grid x y)) number → ⊥) → (Contains (listed (cell_count grid)) number → ⊥) → PassesBy event x y
passed grid listed number (Clear colour) x y lists has unlisted unwide = unwide lists
passed grid listed number (DepthClear depth) x y lists has unlisted unwide = unwide lists
passed grid listed number (Draw draw) x y lists has unlisted unwide = λ i t at.
    false_from_ne_true (covers t.corners x y) (λ covered. elim (lists i t (slice_get_within (triangles_of draw) i t at) at x y covered has) [
      | inl cell ↦ unlisted cell
      | inr wide ↦ unwide wide
    ])
passed grid listed number other x y lists has unlisted unwide = tt

unlisted_passed : (grid : CellGrid) (lists : Option Packed) (events : List Event) (k : ℕ) (event : Event) (x y : ℕ)
    → IfSome lists (λ packed. ListEvents grid (listed_in packed) events) → slice_get events k ≡ Some event → IsUnlisted grid lists k x y
    → PassesBy event x y
unlisted_passed grid None events k event x y is at unlisted = absurd unlisted
unlisted_passed grid (Some packed) events k event x y is at unlisted =
    passed grid (listed_in packed) k event x y (is.lists k event at) unlisted.0 unlisted.1.0 unlisted.1.1

passed_by : (on : Bool) (found : Option Event) (width height : ℕ) (window : Bounds)
    → ((event : Event) → found ≡ Some event → (x y : ℕ) → IsTrue (is_within window x y) → PassesBy event x y)
    → IfSome (cond on found None) (λ event. (x y : ℕ) → IsTrue (is_within window x y) → x < width → y < height → PassesBy event x y)
passed_by true None width height window away = tt
passed_by true (Some event) width height window away = λ x y within column row. away event refl x y within
passed_by false found width height window away = tt

pub passed_from : (t : Table) (index : EventIndex) (from to : ℕ) (window : Bounds) → IsIndex index t.events
    → IsPassedOver index window from to → ArePassedBy t from to window
passed_from t index from to window is unlisted k above below =
    passed_by (is_set t.flags (suc k)) (slice_get t.events k) t.width t.height window (λ event there x y within.
    unlisted_passed index.grid index.lists t.events k event x y is.listed there (unlisted k x y above below within))

-- ---- what lies outside the box of an event is left alone by it

far_outside : (found : Option Event) (width height : ℕ) (window : Bounds)
    → IfSome found (λ event. (x y : ℕ) → IsTrue (is_within window x y) → is_within (reach_of width height event) x y ≡ false)
    → IfSome found (λ event. (x y : ℕ) → IsTrue (is_within window x y) → x < width → y < height → LeavesAlone event x y)
far_outside None width height window out = tt
far_outside (Some event) width height window out = λ x y within column row. outside_reach width height event x y column row (out x y within)

-- what is switched off, or has no pixel, can't write anywhere
quiet : (on : Bool) (found : Option Event) (width height : ℕ) (window : Bounds) → option_map (may_write width height on) found ≡ Some false
    → IfSome (cond on found None) (λ event. (x y : ℕ) → IsTrue (is_within window x y) → is_within (reach_of width height event) x y ≡ false)
quiet on found width height window is = grind (arith, nat_tests)

pub far_quiet : (t : Table) (k : ℕ) (window : Bounds) → may_write_at t (k + 1) ≡ Some false → IsFar t k window
far_quiet t k window is =
    let there : option_map (may_write t.width t.height (is_set t.flags (suc k))) (slice_get t.events k) ≡ Some false =
    ap (λ n. option_map (may_write t.width t.height (is_set t.flags n)) (slice_get t.events k)) {x = suc k} {y = k + 1} (omega arith)
    ∙ ap (option_map (may_write t.width t.height (is_set t.flags (k + 1)))) (sym (at_number-next t.events k)) ∙ is in
    far_outside (active_event t (suc k)) t.width t.height window (quiet (is_set t.flags (suc k)) (slice_get t.events k) t.width t.height window there)

-- what is there has a box that misses the window, also where the event is switched off
missed : (on : Bool) (found : Option Event) (width height : ℕ) (reach window : Bounds) → option_map (reach_of width height) found ≡ Some reach
    → ((x y : ℕ) → IsTrue (is_within window x y) → is_within reach x y ≡ false)
    → IfSome (cond on found None) (λ event. (x y : ℕ) → IsTrue (is_within window x y) → is_within (reach_of width height event) x y ≡ false)
missed on found width height reach window is misses = grind arith

missed_active : (t : Table) (k : ℕ) (window reach : Bounds) → option_map (reach_of t.width t.height) (event_at t (k + 1)) ≡ Some reach
    → ((x y : ℕ) → IsTrue (is_within window x y) → is_within reach x y ≡ false)
    → IfSome (active_event t (suc k)) (λ event. (x y : ℕ) → IsTrue (is_within window x y) → is_within (reach_of t.width t.height event) x y ≡ false)
missed_active t k window reach is misses = grind arith

pub far_missed : (t : Table) (k : ℕ) (window reach : Bounds) → option_map (reach_of t.width t.height) (event_at t (k + 1)) ≡ Some reach
    → ((x y : ℕ) → IsTrue (is_within window x y) → is_within reach x y ≡ false) → IsFar t k window
far_missed t k window reach is misses = far_outside (active_event t (suc k)) t.width t.height window (missed_active t k window reach is misses)
