-- Working. What a switch of an event that was gone through does to an owner, before anything is drawn anew.
use Rattle.std.specs.Prelude.{◌≡◌, ◌-◌, false}
use Rattle.fd_events.specs.Table.{Table}
use Rattle.fd_owner.specs.Shown.{Shown}
use Rattle.fd_session.specs.Held.{StandsFrom}
use Rattle.fd_session.specs.declared.switch.Switch.{Switch}

-- The owner has the history of its place by the table as it is after the switch, up to before the event at least.
pub record IsTakenBefore (table : Table) (switch : Switch) (old new : Shown) : Type 0 where
  pub place : new.place ≡ old.place
  pub stands : StandsFrom false false table (switch.number - 1) new
