-- What a switch of an event changes lies in the box of the event itself, and in those of later draws before which the state is another one.
use Rattle.std.proofs.Common.{◌≡◌, ℕ, zero, suc, ◌+◌, ◌<◌, ◌≤◌, Bool, true, false, cond, IsTrue, [], Option, Some, None, refl, sym, ap, ◌∙◌, subst, add-one}
use Rattle.std.proofs.Common.{unwrap_or, arith, inl, inr}
use Rattle.std.specs.Prelude.{IfSome, ◌||◌}
use Rattle.std.proofs.lemmas.Bool.{cases_lt}
use Rattle.fd_cover.specs.declared.bounds.Bounds.{Bounds}
use Rattle.fd_cover.specs.Bounds.{is_within, HoldsBoth}
use Rattle.fd_tile.specs.declared.place.Place.{Place}
use Rattle.fd_tile.specs.Tile.{Pixel}
use Rattle.fd_events.specs.declared.event.Event.{Event}
use Rattle.fd_events.specs.declared.pipeline.Pipeline.{Pipeline}
use Rattle.fd_events.specs.Reach.{HoldsWritten}
use Rattle.fd_events.specs.Table.{Table, with_flag, is_set, flag_at, event_at, active_event, state_at, state_after_event}
use Rattle.fd_events.specs.Image.{pixel_after_event, kept_by_event}
use Rattle.fd_owner.specs.History.{drawn_history}
use Rattle.fd_owner.specs.Shown.{IsInside}
use Rattle.fd_owner.specs.Untouched.{Misses}
use Rattle.fd_session.specs.Switch.{HoldsChanged, IsSameAt}
use Rattle.fd_session.proofs.Alike.{history_same}
use Rattle.fd_session.proofs.Switching.{active_other, same_past, same_before}

-- a place that the box misses
pub spared : (box : Bounds) (old new : Table) (to : ℕ) (place : Place) → HoldsChanged box old new to → IsInside place new → Misses box place
    → (k : ℕ) → k ≤ to → drawn_history old place k ≡ drawn_history new place k
spared box old new to place changed inside misses =
    history_same old new place to (λ k x y before below held. changed k x y before below (omega (arith, held.to_right, inside.right))
    (omega (arith, held.to_bottom, inside.bottom)) (misses x y held))

-- a box that holds two holds no pixel that neither holds
neither : (p q : Bool) → (IsTrue (p || q) → ⊥) → (p ≡ false) × (q ≡ false)
neither false false none = (refl, refl)
neither false true none = absurd (none refl)
neither true q none = absurd (none refl)

pub outside : (box a b : Bounds) (x y : ℕ) → HoldsBoth box a b → is_within box x y ≡ false → (is_within a x y ≡ false) × (is_within b x y ≡ false)
outside box a b x y both out = neither (is_within a x y) (is_within b x y) (λ within. let same : true ≡ false = sym (both x y within) ∙ out in cc)

-- outside the box of what it can write an event leaves all as it is, also where it is missing or switched off
kept : (on : Bool) (event : Option Event) (state : Pipeline) (x y : ℕ) (before : Pixel) (box : Bounds) (width height : ℕ) → x < width → y < height
    → is_within box x y ≡ false → IfSome event (HoldsWritten box width height)
    → (pixel_after_event (cond on event None) state x y before ≡ before) × (kept_by_event (cond on event None) state x y before ≡ [])
kept false event state x y before box width height right bottom out written = (refl, refl)
kept true None state x y before box width height right bottom out written = (refl, refl)
kept true (Some event) state x y before box width height right bottom out written = written state x y before right bottom out

-- How far the events after a switch have been gone through: the state by the table as it was, and a box round what has changed.
pub record IsFollowed (table : Table) (number : ℕ) (was : Bool) (at : ℕ) (state : Pipeline) (box : Bounds) : Type 0 where
  pub follows : state ≡ state_at (with_flag table number was) at
  pub changed : HoldsChanged box (with_flag table number was) table at

-- one event more
changed_more : (box : Bounds) (old new : Table) (n : ℕ) → HoldsChanged box old new n
    → ((x y : ℕ) (before : Pixel) → x < new.width → y < new.height → is_within box x y ≡ false → IsSameAt old new n x y before)
    → HoldsChanged box old new (suc n)
changed_more box old new n changed next k x y before below right bottom out =
    elim (cases_lt k n) [
      | inl earlier ↦ changed k x y before earlier right bottom out
      | inr there ↦
          let here : n ≡ k = omega (arith, below, there) in
          subst (λ (j : ℕ). IsSameAt old new j x y before) here (next x y before right bottom out)
    ]

-- up to the event itself
pub changed_here : (table : Table) (number : ℕ) (was : Bool) (box : Bounds) → IfSome (event_at table number) (HoldsWritten box table.width table.height)
    → HoldsChanged box (with_flag table number was) table number
changed_here table zero was box written = λ k x y before below right bottom out. absurd (omega (arith, below))
changed_here table (suc i) was box written =
    changed_more box (with_flag table (suc i) was) table i
    (λ k x y before below right bottom out. same_before table (suc i) was k x y before (omega (arith, below)))
    (λ x y before right bottom out.
    let left = λ (t : Table). kept (is_set t.flags (suc i)) (event_at table (suc i)) (state_at t i) x y before box table.width table.height right bottom out
    written in
    let old = left (with_flag table (suc i) was) in
    let new = left table in (old.0 ∙ sym new.0, old.1 ∙ sym new.1))

module _ (table : Table) (number : ℕ) (was : Bool) where
  abbrev old : Table
  old = with_flag table number was

  -- the states after the event, once they are the same
  state_same : (n k : ℕ) → number ≤ n → state_at old n ≡ state_at table n → n ≤ k → state_at old k ≡ state_at table k
  state_same n zero later is within = let here : n ≡ zero = omega (arith, within) in subst (λ (j : ℕ). state_at old j ≡ state_at table j) here is
  state_same n (suc k) later is within =
      elim (cases_lt k n) [
        | inl below ↦ let here : n ≡ suc k = omega (arith, below, within) in subst (λ (j : ℕ). state_at old j ≡ state_at table j) here is
        | inr above ↦
            cc (active_other table number was k (λ e. absurd (omega (arith, e, later, above))), state_same n k later is above)
      ]

  -- up to a position, from another one on which the states are the same
  pub followed : (n to : ℕ) (state : Pipeline) (box : Bounds) → number ≤ n → state ≡ state_at table n → IsFollowed table number was n state box
      → HoldsChanged box old table to
  followed n to state box later is so_far k x y before below right bottom out =
      elim (cases_lt k n) [
        | inl earlier ↦ so_far.changed k x y before earlier right bottom out
        | inr further ↦
            same_past table number was k x y before (λ e. absurd (omega (arith, e, later, further)))
            (state_same n k later (sym so_far.follows ∙ is) further)
      ]

  -- past one event more, which may be none: outside the box it does the same in the states of both tables
  pub followed_by : (event : Option Event) (n : ℕ) (state : Pipeline) (box joined : Bounds) → number ≤ n → active_event table (n + 1) ≡ event
      → ((x y : ℕ) → is_within joined x y ≡ false → is_within box x y ≡ false)
      → ((s t : Pipeline) (x y : ℕ) (before : Pixel) → x < table.width → y < table.height → is_within joined x y ≡ false
      → (pixel_after_event event s x y before ≡ pixel_after_event event t x y before) × (kept_by_event event s x y before ≡ kept_by_event event t x y before))
      → IsFollowed table number was n state box → IsFollowed table number was (n + 1) (state_after_event event state) joined
  followed_by event n state box joined later is wider same so_far =
      let here : active_event table (suc n) ≡ event = subst (λ (m : ℕ). active_event table m ≡ event) (add-one n) is in
      let there : active_event old (suc n) ≡ event = active_other table number was n (λ e. absurd (omega (arith, e, later))) ∙ here in
      rw (add-one n) (record {
        follows = ap (state_after_event event) so_far.follows ∙ ap (λ (e : Option Event). state_after_event e (state_at old n)) (sym there);
        changed = changed_more joined old table n (λ k x y before below right bottom out. so_far.changed k x y before below right bottom (wider x y out))
            (λ x y before right bottom out. rw (there, here) (same (state_at old n) (state_at table n) x y before right bottom out));
      })

-- an event that is switched off or on
pub active_is : (table : Table) (number : ℕ) (on : Bool) → flag_at table number ≡ Some on → active_event table number ≡ cond on (event_at table number) None
active_is table number on is = ap (λ (o : Option Bool). cond (unwrap_or o false) (event_at table number) None) is
