-- Working. The rule of the fence: the word is the lowest position that a worker lowered it to, and no worker saw it lower than it is.
use Rattle.std.specs.Prelude.{◌≡◌, ℕ, ◌+◌, ◌-◌, ◌/◌, ◌<◌, ◌≤◌, List, [], ◌∷◌, min}
use mathlib.Core.Option.{some}
use lib.ListN.{get_elem?}
use Rattle.atomic_table.specs.Table.{State, Me, Step}
use Rattle.fd_crew.specs.declared.fence.View.{View}
use Rattle.fd_crew.specs.declared.fence.Crew.{Crew}

-- ---- the views of the seats

abbrev pub view : ℕ → ℕ → ℕ → View
view seen low share = record { seen = seen; low = low; share = share }

-- the one seat of a new fence: it saw the target, and speaks for all workers
abbrev pub opening_view : Crew → View
opening_view crew = view crew.target crew.target crew.workers

-- a split: both seats know what the one knew, and each speaks for half of its workers
abbrev pub front_view : View → View
front_view v = view v.seen v.low (v.share / 2)

abbrev pub back_view : View → View
back_view v = view v.seen v.low (v.share - v.share / 2)

-- a join: the one seat knows what both knew, and speaks for the workers of both
abbrev pub joined_view : View → View → View
joined_view v w = view (min v.seen w.seen) (min v.low w.low) (v.share + w.share)

-- the seat that was taken in speaks for nobody, and holds nothing down
abbrev pub spent_view : View
spent_view = view 18446744073709551615 18446744073709551615 0

-- ---- the rule

abbrev pub least_low : List View → ℕ
least_low [] = 18446744073709551615
least_low (v ∷ vs) = min v.low (least_low vs)

abbrev pub all_shares : List View → ℕ
all_shares [] = 0
all_shares (v ∷ vs) = v.share + all_shares vs

-- a view saw no less than the word, and is spent if it speaks for nobody
pub record IsSound (word : ℕ) (v : View) : Type 0 where
  pub above : word ≤ v.seen
  pub spent : v.share ≡ 0 → v ≡ spent_view

-- what holds between any two steps: the word is the least low of all views, these speak for all workers together, and each is sound
pub record Kept (crew : Crew) (s : State (Unit {0}) View) : Type 0 where
  pub word : s.words ≡ least_low s.views ∷ []
  pub shares : all_shares s.views ≡ crew.workers
  pub sound : (id : ℕ) (v : View) → get_elem? s.views id ≡ some v → IsSound (least_low s.views) v

-- ---- what the steps on the word tell: before is the seat before the step, found the word before it, and after the seat after it

-- a look sees the word, which is no more than what was seen before
abbrev pub Looks : Step (Unit {0}) → Me (Unit {0}) View → ℕ → Me (Unit {0}) View → Type 0
Looks step before found after = (after.0 ≡ view found before.0.low before.0.share) × (found ≤ before.0.seen) × (after.1 ≡ before.1)

-- a lowering to step.first sees the new word, which is the lesser of this and the old one
abbrev pub Lowers : Step (Unit {0}) → Me (Unit {0}) View → ℕ → Me (Unit {0}) View → Type 0
Lowers step before found after = (after.0 ≡ view (min found step.first) (min before.0.low step.first) before.0.share) × (found ≤ before.0.seen)
    × (after.1 ≡ before.1)

-- ---- a worker

-- a seat that speaks for somebody, and knows of no position above the target, which the events reach
pub record CanWork (crew : Crew) (events : ℕ) (v : View) : Type 0 where
  pub some_share : 0 < v.share
  pub seen : v.seen ≤ crew.target
  pub low : v.low ≤ crew.target
  pub within : crew.target ≤ events
  pub small : crew.target < 4294967296
