-- Promised. A frame at a position.
use Rattle.std.specs.Prelude.{◌≤◌, ℕ, Bool, length}
use Rattle.fd_events.specs.Table.{Table, IsTable, with_flag}

-- the table with its events and flags, and how many of the events have been gone through
pub record State : Type 0 where
  pub table : Table
  pub position : ℕ

-- what holds of every state that a session has
pub record IsState (state : State) : Type 0 where
  pub table : IsTable state.table
  pub position : state.position ≤ length state.table.events

abbrev pub opening : Table → State
opening table = record { table = table; position = 0 }

-- the same table, at another position
abbrev pub at_position : State → ℕ → State
at_position state position = record { table = state.table; position = position }

-- one flag set, at another position
abbrev pub with_flag_at : State → ℕ → Bool → ℕ → State
with_flag_at state number on position = record { table = with_flag state.table number on; position = position }
