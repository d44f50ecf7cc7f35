-- Working. Seats at a fence.
use Rattle.std.specs.Prelude.{◌≡◌, ℕ, []}
use Rattle.atomic_table.specs.declared.shared.Seat.{Seat}
use Rattle.fd_crew.specs.declared.fence.View.{View}
use Rattle.fd_crew.specs.declared.fence.Crew.{Crew}
use Rattle.fd_crew.specs.declared.fence.Fence.{Fence}

-- what the fence was told when it was made
abbrev pub crew_of : Fence → Crew
crew_of fence = fence.table.shared.key

abbrev pub target_of : Fence → ℕ
target_of fence = (crew_of fence).target

-- a seat at this fence, which is one word
pub record IsSeatAt (fence : Fence) (seat : Seat (Unit {0}) View) : Type 0 where
  pub here : seat.table_id ≡ fence.table.shared.table_id
  pub one_word : fence.table.shared.table_id.words ≡ 1
  pub no_slot : (fence.table.shared.table_id.slots ≡ 0) × (seat.me.1 ≡ [])
