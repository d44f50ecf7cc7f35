-- Working. What a run does to its lanes: what it promises of them, and what each worker hands on.
use Rattle.std.specs.Prelude.{◌≡◌, ℕ, ◌+◌, ◌<◌, ◌≤◌, ◌⊎◌, List, [], ◌∷◌, Some}
use Rattle.std.specs.List.{AllZip}
use Rattle.fd_events.specs.Table.{Table}
use Rattle.fd_owner.specs.History.{position, extend_to, first_frames}
use Rattle.fd_owner.specs.Shown.{Shown}
use Rattle.fd_crew.specs.declared.fence.View.{View}
use Rattle.fd_crew.specs.declared.crew.Outcome.{Outcome}
use Rattle.fd_crew.specs.declared.crew.Outcome.TheVariants.{Reached, Stopped}

-- ---- one lane, before and after

-- the lane has gone on through the next events to this position
pub record GoneTo (table : Table) (to : ℕ) (old new : Shown) : Type 0 where
  pub place : new.place ≡ old.place
  pub history : new.history ≡ extend_to table old.place to old.history
  pub after : position old.history ≤ to

-- the same, where the lane may have stood above it: then it stays
pub record StandsOn (table : Table) (to : ℕ) (old new : Shown) : Type 0 where
  pub place : new.place ≡ old.place
  pub history : new.history ≡ extend_to table old.place to old.history

-- the lane has come to this position, through next events or back from above it
pub record CameTo (table : Table) (to : ℕ) (old new : Shown) : Type 0 where
  pub place : new.place ≡ old.place
  pub history : new.history ≡ first_frames to (extend_to table old.place to old.history)

-- nothing was refused
pub record IsQuiet (old new : Shown) : Type 0 where
  pub refusals : new.refusals ≡ old.refusals
  pub refused_at : new.refused_at ≡ old.refused_at

-- the refusals rose, or stand at the greatest number
abbrev pub Rose : Shown → Shown → Type 0
Rose old new = (old.refusals < new.refusals) ⊎ (new.refusals ≡ 18446744073709551615)

-- the lane refused at this position
pub record RefusedAt (at : ℕ) (old new : Shown) : Type 0 where
  pub there : new.refused_at ≡ Some at
  pub rose : Rose old new
  pub after : position old.history ≤ at

-- the lane refused nothing, or at no lower position
abbrev pub RefusedNoLower : ℕ → Shown → Shown → Type 0
RefusedNoLower at old new = IsQuiet old new ⊎ ((r : ℕ) × RefusedAt r old new × (at ≤ r))

-- the gate was opened for each event that the lane has gone through since
abbrev pub IsPassed : (ℕ → Type 0) → Shown → Shown → Type 0
IsPassed opened old new = (event : ℕ) → position old.history < event → event ≤ position new.history → opened event

-- the same of each of these lanes, which are numbered on from this number
abbrev pub ArePassed : {L : Type 0} → (L → Shown) → (ℕ → ℕ → Type 0) → ℕ → List L → List L → Type 0
ArePassed shown opened number [] [] = Unit {0}
ArePassed shown opened number [] (y ∷ ys) = ⊥
ArePassed shown opened number (x ∷ xs) [] = ⊥
ArePassed shown opened number (x ∷ xs) (y ∷ ys) = IsPassed (opened number) (shown x) (shown y) × ArePassed shown opened (number + 1) xs ys

-- ---- a run

-- R holds somewhere of the items of two lists
abbrev pub AnyZip : {A B : Type 0} → (A → B → Type 0) → List A → List B → Type 0
AnyZip R [] ys = ⊥
AnyZip R (x ∷ xs) [] = ⊥
AnyZip R (x ∷ xs) (y ∷ ys) = R x y ⊎ AnyZip R xs ys

-- the position at which the lanes stand, where they stand at one
abbrev pub opening_position : List Shown → ℕ
opening_position [] = 0
opening_position (lane ∷ lanes) = position lane.history

-- how a run of the lanes to the target ends: all stand at the target and none refused, or all stand at the least position at which one refused
abbrev pub EndsAs : {L : Type 0} → (L → Shown) → Table → ℕ → List L → List L → Outcome → Type 0
EndsAs shown table target old new Reached = AllZip (λ x y. GoneTo table target (shown x) (shown y) × IsQuiet (shown x) (shown y)) old new
EndsAs shown table target old new (Stopped at) =
    (at < target) × AllZip (λ x y. GoneTo table at (shown x) (shown y) × RefusedNoLower at (shown x) (shown y)) old new
    × AnyZip (λ x y. RefusedAt at (shown x) (shown y)) old new

-- the same of lanes that begin apart: those that stand above the target stay there, or come down to where one refused
abbrev pub EndsApart : {L : Type 0} → (L → Shown) → Table → ℕ → List L → List L → Outcome → Type 0
EndsApart shown table target old new Reached = AllZip (λ x y. StandsOn table target (shown x) (shown y) × IsQuiet (shown x) (shown y)) old new
EndsApart shown table target old new (Stopped at) =
    (at < target) × AllZip (λ x y. CameTo table at (shown x) (shown y) × RefusedNoLower at (shown x) (shown y)) old new
    × AnyZip (λ x y. RefusedAt at (shown x) (shown y)) old new

-- what is known where the lanes stopped
abbrev pub OnStop : Type 0 → Outcome → Type 0
OnStop P Reached = Unit {0}
OnStop P (Stopped at) = P

-- ---- a worker

-- how a worker leaves a lane: it went on through the next events, at least to what the worker saw last, or stood above the target; and it refused nothing, or
-- once, no lower than the worker lowered the fence
pub record Drawn (table : Table) (target seen low : ℕ) (old new : Shown) : Type 0 where
  pub place : new.place ≡ old.place
  pub history : new.history ≡ extend_to table old.place (position new.history) old.history
  pub after : position old.history ≤ position new.history
  pub within : (position new.history ≤ target) ⊎ (new.history ≡ old.history)
  pub reached : seen ≤ position new.history
  pub refusals : IsQuiet old new ⊎ ((at : ℕ) × RefusedAt at old new × (low ≤ at) × (at < target))

-- what a worker hands on, or neighbouring workers together: each of their lanes, and that the fence was lowered by a refusal alone
pub record Worked {L : Type 0} (shown : L → Shown) (fits : L → Table → Type 0) (table : Table) (target : ℕ) (before after : View) (old new : List L) : Type 0
  where
    pub lanes : AllZip (λ x y. Drawn table target after.seen after.low (shown x) (shown y) × fits y table) old new
    pub low : (after.low ≡ before.low) ⊎ AnyZip (λ x y. RefusedAt after.low (shown x) (shown y)) old new
    pub lower : (after.low ≤ before.low) × (after.seen ≤ before.seen)
    pub share : after.share ≡ before.share
