-- The states that are computed one after the other.
use Rattle.std.proofs.Common.{◌≡◌, ◌≢◌, ℕ, zero, suc, ◌+◌, ◌<◌, ◌≤◌, Bool, false, cond, List, [], ◌∷◌, ◌++◌, length, get_or, Option, Some, None}
use Rattle.std.proofs.Common.{unwrap_or, slice_get, replicate, refl, sym, ap, ◌∙◌, add-one, arith, inl, inr}
use Rattle.std.proofs.Math.ListN.{set}
use Rattle.std.proofs.lemmas.Bool.{cases_eq, cases_lt}
use Rattle.std.proofs.lemmas.Option.{slice_get-get_or, get_or_from_slice_get, unwrap_or-slice_get}
use Rattle.fd_events.specs.declared.event.Event.{Event}
use Rattle.fd_events.specs.declared.pipeline.Pipeline.{Pipeline}
use Rattle.fd_events.specs.Pipeline.{state_after}
use Rattle.fd_events.specs.Table.{state_of, state_after_event}
use Rattle.fd_events.specs.StateList.{place_past, place_past_event, state_place, ArePlaces}

pub slice_get-set_same : {A : Type 0} (xs : List A) (i : ℕ) (v : A) → i < length xs → slice_get (set xs i v) i ≡ Some v
slice_get-set_same [] i v h = absurd (omega arith)
slice_get-set_same (x ∷ xs) zero v h = refl
slice_get-set_same (x ∷ xs) (suc i) v h = slice_get-set_same xs i v (omega arith)

pub slice_get-set_other : {A : Type 0} (xs : List A) (i j : ℕ) (v : A) → j ≢ i → slice_get (set xs i v) j ≡ slice_get xs j
slice_get-set_other [] i j v h = refl
slice_get-set_other (x ∷ xs) zero zero v h = absurd (h refl)
slice_get-set_other (x ∷ xs) zero (suc j) v h = refl
slice_get-set_other (x ∷ xs) (suc i) zero v h = refl
slice_get-set_other (x ∷ xs) (suc i) (suc j) v h = slice_get-set_other xs i j v (λ e. h (ap suc e))

pub first_alike : {A : Type 0} (n : ℕ) (x y : A) → x ≡ y → slice_get (replicate (n + 1) x) 0 ≡ Some y
first_alike n x y is = rw (add-one n, is) refl

-- ---- states

chosen : (on : Bool) (event : Event) (state : Pipeline) → state_after_event (cond on (Some event) None) state ≡ cond on (state_after event state) state
chosen on event state = grind arith

-- the state past the event at index k
pub state_of-next : (events : List Event) (flags : List Bool) (k : ℕ) (event : Event) (on : Bool) (state : Pipeline) → k < length events
    → event ≡ get_or events k event → on ≡ get_or flags k false → state_of events flags k ≡ state
    → state_of events flags (k + 1) ≡ cond on (state_after event state) state
state_of-next events flags k event on state lt is flag before =
    let here : slice_get events k ≡ Some event = slice_get-get_or events k event lt ∙ ap (λ (e : Event). Some e) (sym is) in
    let set_so : unwrap_or (slice_get flags k) false ≡ on = unwrap_or-slice_get flags k false ∙ sym flag in
    rw (add-one, set_so, here, before) (chosen on event state)

-- a flag says nothing of the states before its event
pub state_of-set : (events : List Event) (flags : List Bool) (i : ℕ) (on : Bool) (k : ℕ) → k ≤ i → state_of events (set flags i on) k ≡ state_of events flags k
state_of-set events flags i on zero le = refl
state_of-set events flags i on (suc k) le = rw (slice_get-set_other flags i k on (λ e. absurd (omega arith)), state_of-set events flags i on k (omega arith))
    refl

-- ---- places

place_steps : (found : Option Event) (place : ℕ) → (place ≤ place_past_event found place) × (place_past_event found place ≤ place + 1)
place_steps found place = grind arith

-- an event takes at most one place
pub state_place-next : (events : List Event) (k : ℕ) → (state_place events k ≤ state_place events (k + 1)) ×
    (state_place events (k + 1) ≤ state_place events k + 1)
state_place-next events k = rw (add-one k) (place_steps (slice_get events k) (state_place events k))

pub state_place-at : (events : List Event) (k : ℕ) (event : Event) → k < length events → event ≡ get_or events k event
    → state_place events (k + 1) ≡ place_past event (state_place events k)
state_place-at events k event lt is = grind (arith, slice_get-get_or, add-one)

pub places_rise : (events : List Event) (j k : ℕ) → j ≤ k → state_place events j ≤ state_place events k
places_rise events j zero le = let same : j ≡ zero = omega arith in rw same (omega arith)
places_rise events j (suc k) le =
    elim (cases_lt j (suc k)) [
      | inl below ↦ omega (arith, places_rise events j k (omega arith), (place_steps (slice_get events k) (state_place events k)).0)
      | inr above ↦ let same : j ≡ suc k = omega arith in rw same (omega arith)
    ]

-- the place that is read
pub place_read : (events : List Event) (places : List ℕ) (k place : ℕ) → ArePlaces events places → k ≤ length events → place ≡ get_or places k place
    → place ≡ state_place events k
place_read events places k place are le is = is ∙ get_or_from_slice_get places k (state_place events k) place (are.each k le)

-- ---- an event that takes no place

-- its flag says nothing of any state
set_quiet : (events : List Event) (flags flags' : List Bool) (k : ℕ) → state_place events (k + 1) ≤ state_place events k
    → state_of events flags' k ≡ state_of events flags k
    → state_of events flags' (suc k) ≡ state_of events flags (suc k)
set_quiet events flags flags' k le before = grind arith

pub state_of-set_quiet : (events : List Event) (flags : List Bool) (i : ℕ) (on : Bool) (k : ℕ) → state_place events (i + 1) ≤ state_place events i
    → state_of events (set flags i on) k ≡ state_of events flags k
state_of-set_quiet events flags i on zero le = refl
state_of-set_quiet events flags i on (suc k) le =
    elim (cases_eq k i) [
      | inl same ↦ set_quiet events flags (set flags i on) k (rw same le) (state_of-set_quiet events flags i on k le)
      | inr apart ↦ rw (slice_get-set_other flags i k on apart, state_of-set_quiet events flags i on k le) refl
    ]

-- ---- one step

-- the states of the positions up to the next one, where the event between takes no place
pub states_kept : (events : List Event) (flags : List Bool) (states : List Pipeline) (k : ℕ) → state_place events (k + 1) ≤ state_place events k
    → ((j : ℕ) → j ≤ k → slice_get states (state_place events j) ≡ Some (state_of events flags j))
    → (j : ℕ) → j ≤ k + 1 → slice_get states (state_place events j) ≡ Some (state_of events flags j)
states_kept events flags states k le before j to = grind arith

-- and where it takes one
pub states_grow : (events : List Event) (flags : List Bool) (states : List Pipeline) (k : ℕ) (v : Pipeline)
    → state_place events (k + 1) < length states → state_place events k < state_place events (k + 1) → v ≡ state_of events flags (k + 1)
    → ((j : ℕ) → j ≤ k → slice_get states (state_place events j) ≡ Some (state_of events flags j))
    → (j : ℕ) → j ≤ k + 1 → slice_get (set states (state_place events (k + 1)) v) (state_place events j) ≡ Some (state_of events flags j)
states_grow events flags states k v lt more is before j to =
    elim (cases_lt j (k + 1)) [
      | inl below ↦
          let earlier : state_place events j ≤ state_place events k = places_rise events j k (omega arith) in
          slice_get-set_other states (state_place events (k + 1)) (state_place events j) v (λ e. absurd (omega (arith, earlier, more, e)))
          ∙ before j (omega arith)
      | inr above ↦
          let same : j ≡ k + 1 = omega arith in
          rw same (slice_get-set_same states (state_place events (k + 1)) v lt ∙ ap (λ (s : Pipeline). Some s) is)
    ]

-- ---- one place more

slice_get-append : {A : Type 0} (xs ys : List A) (i : ℕ) → i < length xs → slice_get (xs ++ ys) i ≡ slice_get xs i
slice_get-append [] ys i h = absurd (omega arith)
slice_get-append (x ∷ xs) ys zero h = refl
slice_get-append (x ∷ xs) ys (suc i) h = slice_get-append xs ys i (omega arith)

slice_get-append_end : {A : Type 0} (xs : List A) (y : A) → slice_get (xs ++ y ∷ []) (length xs) ≡ Some y
slice_get-append_end [] y = refl
slice_get-append_end (x ∷ xs) y = slice_get-append_end xs y

pub places_grow : (events : List Event) (places : List ℕ) (k place : ℕ) → length places ≡ k + 1 → place ≡ state_place events (k + 1)
    → ((j : ℕ) → j ≤ k → slice_get places j ≡ Some (state_place events j))
    → (j : ℕ) → j ≤ k + 1 → slice_get (places ++ place ∷ []) j ≡ Some (state_place events j)
places_grow events places k place long is before j to = grind (arith, slice_get-append, slice_get-append_end)
