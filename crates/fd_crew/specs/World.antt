-- Working. The world of a crew: lanes, the workers that own them, and a fence that only goes down. The workers' steps may come in any order.
use Rattle.std.specs.Prelude.{◌≡◌, ◌⊎◌, ℕ, ◌<◌, ◌≤◌, Bool, true, false, List, [], ◌∷◌, min, slice_set}
use mathlib.Core.Option.{Option, none, some}
use lib.ListN.{get_elem?}
use Rattle.std.specs.List.{AllZip}
use Rattle.fd_events.specs.Table.{Table}
use Rattle.fd_tile.specs.declared.place.Place.{Place}
use Rattle.fd_owner.specs.History.{History, position, extend, extend_to, drop_last, first_frames}

-- a lane has one owner for the whole run
pub record Lane : Type 0 where
  pub owner : ℕ
  pub place : Place
  pub history : History

-- where the worker saw the fence last; the position of a refusal that the fence has not been told yet; whether it has left
pub record Worker : Type 0 where
  pub seen : ℕ
  pub owed : Option ℕ
  pub left : Bool

-- refused has the positions at which a lane has refused so far: it is what an onlooker writes down, and no worker reads it
pub record World : Type 0 where
  pub lanes : List Lane
  pub workers : List Worker
  pub fence : ℕ
  pub refused : List ℕ

-- look w: the worker looks at the fence.    draw w t: it takes its lane t through the next event.    refuse w t: its lane t refuses that event.
-- lower w: it lowers the fence to where the lane refused.    leave w: it leaves for good.    home t: lane t goes back by one event.
pub data Action : Type 0 where
  look : ℕ → Action
  draw : ℕ → ℕ → Action
  refuse : ℕ → ℕ → Action
  lower : ℕ → Action
  leave : ℕ → Action
  home : ℕ → Action

-- ---- when an action is allowed

-- p is the worker w, which has not left
abbrev pub IsIn : World → ℕ → Worker → Type 0
IsIn x w p = (get_elem? x.workers w ≡ some p) × (p.left ≡ false)

-- the worker may go on with its lane: it owes no refusal, and the lane is below where it saw the fence last
abbrev pub MayDraw : World → ℕ → ℕ → Worker → Lane → Type 0
MayDraw x w t p l = IsIn x w p × (get_elem? x.lanes t ≡ some l) × (l.owner ≡ w) × (p.owed ≡ none) × (position l.history < p.seen)

-- the worker may leave: it owes no refusal, and none of its lanes is below where it saw the fence last
abbrev pub MayLeave : World → ℕ → Worker → Type 0
MayLeave x w p = IsIn x w p × (p.owed ≡ none) × ((t : ℕ) (l : Lane) → get_elem? x.lanes t ≡ some l → l.owner ≡ w → p.seen ≤ position l.history)

abbrev pub AllLeft : World → Type 0
AllLeft x = (w : ℕ) (p : Worker) → get_elem? x.workers w ≡ some p → p.left ≡ true

abbrev pub NoneAbove : World → Type 0
NoneAbove x = (t : ℕ) (l : Lane) → get_elem? x.lanes t ≡ some l → position l.history ≤ x.fence

-- ---- what it does

abbrev pub with_worker : World → ℕ → Worker → World
with_worker x w p = record { lanes = x.lanes; workers = slice_set x.workers w p; fence = x.fence; refused = x.refused }

abbrev pub with_history : World → ℕ → Lane → History → World
with_history x t l h = record {
  lanes = slice_set x.lanes t (record { owner = l.owner; place = l.place; history = h });
  workers = x.workers;
  fence =
      x.fence;
  refused = x.refused;
}

-- one allowed action, from the world x to the world y
abbrev pub Acts : Table → World → Action → World → Type 0
Acts table x (look w) y = (p : Worker) × IsIn x w p × (y ≡ with_worker x w (record { seen = x.fence; owed = p.owed; left = false }))
Acts table x (draw w t) y = (p : Worker) × (l : Lane) × MayDraw x w t p l × (y ≡ with_history x t l (extend table l.place l.history))
Acts table x (refuse w t) y =
    (p : Worker) × (l : Lane) × MayDraw x w t p l
    × (y ≡ record {
      lanes = x.lanes;
      workers = slice_set x.workers w (record { seen = p.seen; owed = some (position l.history); left = false });
      fence =
          x.fence;
      refused = position l.history ∷ x.refused;
    })
Acts table x (lower w) y =
    (p : Worker) × (at : ℕ) × IsIn x w p × (p.owed ≡ some at)
    × (y ≡ record {
      lanes = x.lanes;
      workers = slice_set x.workers w (record { seen = min x.fence at; owed = none; left = false });
      fence =
          min x.fence at;
      refused = x.refused;
    })
Acts table x (leave w) y = (p : Worker) × MayLeave x w p × (y ≡ with_worker x w (record { seen = p.seen; owed = none; left = true }))
Acts table x (home t) y = (l : Lane) × AllLeft x × (get_elem? x.lanes t ≡ some l) × (x.fence < position l.history)
    × (y ≡ with_history x t l (drop_last l.history))

-- one allowed action after the other
abbrev pub Runs : Table → World → List Action → World → Type 0
Runs table x [] y = x ≡ y
Runs table x (a ∷ actions) y = (z : World) × Acts table x a z × Runs table z actions y

-- a world at its opening: no lane below this position, wherever each begins, and each with an owner; all workers see the fence, which is at the target
pub record IsOpening (floor target : ℕ) (x : World) : Type 0 where
  pub within : floor ≤ target
  pub fence : x.fence ≡ target
  pub refused : x.refused ≡ []
  pub lanes : (t : ℕ) (l : Lane) → get_elem? x.lanes t ≡ some l → (floor ≤ position l.history) × ((p : Worker) × (get_elem? x.workers l.owner ≡ some p))
  pub workers : (w : ℕ) (p : Worker) → get_elem? x.workers w ≡ some p → (p.seen ≡ target) × (p.owed ≡ none) × (p.left ≡ false)

-- ---- the law

-- the least of the numbers, or n where there is none
abbrev pub least_or : ℕ → List ℕ → ℕ
least_or n [] = n
least_or n (x ∷ xs) = min x (least_or x xs)

-- the lane went on through the next events
pub record WentOn (table : Table) (old new : Lane) : Type 0 where
  pub after : position old.history ≤ position new.history
  pub history : new.history ≡ extend_to table old.place (position new.history) old.history

-- the lane came back to before where it began
pub record CameBack (old new : Lane) : Type 0 where
  pub before : position new.history < position old.history
  pub history : new.history ≡ first_frames (position new.history) old.history

-- it is the same lane, and went on, or came back since this holds
pub record Moved (table : Table) (Gone : Type 0) (old new : Lane) : Type 0 where
  pub owner : new.owner ≡ old.owner
  pub place : new.place ≡ old.place
  pub moved : WentOn table old new ⊎ (Gone × CameBack old new)

-- At any time each lane has gone on through the next events, or come back since all workers left, and none stands below the floor of all openings. So lanes
-- that all begin there have gone on.
-- When all workers have left and no lane is above the fence, all lanes stand at the fence: at the target, or at the least position at which one refused.
abbrev pub CrewWorld : Type 0
CrewWorld =
    (table : Table) (floor target : ℕ) (x y : World) (actions : List Action) → IsOpening floor target x → Runs table x actions y
    → AllZip (Moved table (AllLeft y)) x.lanes y.lanes
    × ((t : ℕ) (l : Lane) → get_elem? y.lanes t ≡ some l → floor ≤ position l.history)
    × (AllLeft y → NoneAbove y → ((t : ℕ) (l : Lane) → get_elem? y.lanes t ≡ some l → position l.history ≡ y.fence) × (y.fence ≡ least_or target y.refused))
