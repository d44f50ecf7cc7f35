-- A switch of an event leaves all that stands before it.
use Rattle.std.proofs.Common.{◌≡◌, ◌≢◌, ℕ, zero, suc, ◌-◌, ◌<◌, ◌≤◌, Bool, false, List, [], ◌∷◌, get_or, refl, sym, ap, ◌∙◌, arith, All, Some}
use Rattle.std.proofs.Common.{slice_get, slice_set}
use Rattle.std.specs.List.{AllZip}
use Rattle.std.proofs.lemmas.List.{length-set}
use Rattle.fd_tile.specs.declared.place.Place.{Place}
use Rattle.fd_tile.specs.Tile.{Pixel}
use Rattle.fd_tile.specs.Grid.{TargetSize}
use Rattle.fd_events.specs.Table.{Table, IsTable, with_flag, flag_at, active_event, state_at}
use Rattle.fd_events.proofs.States.{slice_get-set_other, state_of-set}
use Rattle.fd_owner.specs.History.{drawn_history}
use Rattle.fd_owner.specs.Shown.{Shown, gone_back_to}
use Rattle.fd_session.specs.Held.{Stands, StandsFrom, size_of, IsLeft}
use Rattle.fd_session.specs.Redraw.{IsTakenBefore}
use Rattle.fd_session.specs.Switch.{IsSameAt, IsSpared, unswitched}
use Rattle.fd_session.specs.declared.switch.Switch.{Switch}
use Rattle.fd_session.proofs.Alike.{history_same}
use Rattle.fd_session.proofs.Frames.{stands_less, stands_from, all_moved}

-- ---- what the table with one flag set has of the table

pub events_with : (table : Table) (number : ℕ) (on : Bool) → (with_flag table number on).events ≡ table.events
events_with table zero on = refl
events_with table (suc i) on = refl

pub size_with : (table : Table) (number : ℕ) (on : Bool) → size_of (with_flag table number on) ≡ size_of table
size_with table zero on = refl
size_with table (suc i) on = refl

pub table_with : (table : Table) (number : ℕ) (on : Bool) → IsTable table → IsTable (with_flag table number on)
table_with table zero on valid = valid
table_with table (suc i) on valid = record {
  min_width = valid.min_width;
  max_width = valid.max_width;
  min_height = valid.min_height;
  max_height = valid.max_height;
  max_events = valid.max_events;
  version = valid.version;
  flags = length-set table.flags i on ∙ valid.flags;
}

pub active_other : (table : Table) (number : ℕ) (on : Bool) (k : ℕ) → suc k ≢ number → active_event (with_flag table number on) (suc k)
    ≡ active_event table (suc k)
active_other table zero on k other = refl
active_other table (suc i) on k other = rw (slice_get-set_other table.flags i k on (λ e. other (ap suc e))) refl

state_before : (table : Table) (number : ℕ) (on : Bool) (k : ℕ) → k < number → state_at (with_flag table number on) k ≡ state_at table k
state_before table zero on k before = absurd (omega arith)
state_before table (suc i) on k before = state_of-set table.events table.flags i on k (omega arith)

set_back : (flags : List Bool) (n : ℕ) (first second : Bool) → slice_get flags n ≡ Some second → slice_set (slice_set flags n first) n second ≡ flags
set_back [] n first second is = refl
set_back (flag ∷ flags) zero first second is = let same : flag ≡ second = cc in ap (λ b. b ∷ flags) (sym same)
set_back (flag ∷ flags) (suc n) first second is = ap (λ bs. flag ∷ bs) (set_back flags n first second is)

pub flag_back : (table : Table) (number : ℕ) (first second : Bool) → flag_at table number ≡ Some second
    → with_flag (with_flag table number first) number second ≡ table
flag_back table zero first second is = refl
flag_back table (suc n) first second is = ap (λ flags. record table { flags = flags }) (set_back table.flags n first second is)

-- by the table as it is after the switch, the one before it
pub unswitched_is : (table : Table) (switch : Switch) (number : ℕ) (on : Bool) → switch.number ≡ number → flag_at table number ≡ Some switch.was_on
    → unswitched (with_flag table number on) switch ≡ table
unswitched_is table switch number on of was = cc (of, flag_back table number on switch.was_on was)

-- ---- what is drawn by it

-- where two tables give a place one history
stands_by : (old new : Table) (k : ℕ) (o : Shown) → size_of old ≡ size_of new → drawn_history old o.place k ≡ drawn_history new o.place k
    → Stands false old k o → Stands false new k o
stands_by old new k o sized same at = record {
  history = at.history ∙ same;
  inside = record {
    right = omega (arith, at.inside.right, ap (λ (s : TargetSize). s.width) sized);
    bottom = omega (arith, at.inside.bottom, ap (λ (s : TargetSize). s.height) sized);
  };
}

module _ (table : Table) (number : ℕ) (on : Bool) where
  abbrev switched : Table
  switched = with_flag table number on

  -- an event before which the state is the same
  pub same_past : (k x y : ℕ) (before : Pixel) → suc k ≢ number → state_at switched k ≡ state_at table k → IsSameAt switched table k x y before
  same_past k x y before other is = rw (active_other table number on k other, is) (refl, refl)

  pub same_before : (k x y : ℕ) (before : Pixel) → suc k < number → IsSameAt switched table k x y before
  same_before k x y before below = same_past k x y before (λ e. absurd (omega (arith, e, below))) (state_before table number on k (omega (arith, below)))

  history_before : (place : Place) (k : ℕ) → k < number → drawn_history switched place k ≡ drawn_history table place k
  history_before place k below = history_same switched table place k (λ j x y before under held. same_before j x y before (omega (arith, under, below))) k
      (omega arith)

  -- one that stands before the event
  pub stood_before : (k : ℕ) (o : Shown) → k < number → Stands false switched k o → Stands false table k o
  stood_before k o below = stands_by switched table k o (size_with table number on) (history_before o.place k below)

  pub all_before : (k : ℕ) (owners : List Shown) → k < number → All (Stands false table k) owners → All (Stands false switched k) owners
  all_before k owners below at n d within =
      let o = get_or owners n d in
      stands_by table switched k o (sym (size_with table number on)) (sym (history_before o.place k below)) (at n d within)

-- ---- what a switch leaves of the owners, before anything is drawn anew
module _ (table : Table) (switch : Switch) where
  -- one that stays
  pub taken_spared : (o : Shown) → switch.number ≤ switch.position → IsSpared table switch o.place → Stands false (unswitched table switch) switch.position o
      → IsTakenBefore table switch o o
  taken_spared o reached spared stood = record {
    place = refl;
    stands = record {
      at = switch.position;
      stands = stands_by (unswitched table switch) table switch.position o (size_with table switch.number switch.was_on)
          (spared switch.position (omega arith)) stood;
      above = omega (arith, reached);
      level = λ t. absurd (cc);
    };
  }

  -- one that goes back
  pub taken_back : (o p : Shown) → 1 ≤ switch.number → switch.number ≤ switch.position → Stands false (unswitched table switch) switch.position o
      → p ≡ gone_back_to (switch.number - 1) o
      → IsTakenBefore table switch o p
  taken_back o p first reached stood gone = record {
    place = ap (λ (s : Shown). s.place) gone;
    stands = stands_from false false table (switch.number - 1) p (stood_before table switch.number switch.was_on (switch.number - 1) p (omega (arith, first))
        (stands_less false (unswitched table switch) switch.position (switch.number - 1) o p (omega (arith, reached)) (λ t. absurd (cc)) stood gone));
  }

  -- all of them
  pub all_taken : (old new : List Shown) → AllZip (IsTakenBefore table switch) old new → IsLeft (StandsFrom false false table (switch.number - 1)) old new
  all_taken old new taken = all_moved (λ o. Unit {0}) (StandsFrom false false table (switch.number - 1)) (IsTakenBefore table switch)
      (λ o p u t. (t.place, t.stands))
      old new (λ k d within. tt) taken
