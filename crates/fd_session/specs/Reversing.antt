-- Working. That going back undoes a step, and switching back a switch.
use Rattle.std.specs.Prelude.{◌≡◌, ℕ, Bool, not, Ok}
use Rattle.fd_session.specs.declared.answer.Answer.TheVariants.{Moved}
use Rattle.fd_frame.specs.State.{State}
use Rattle.fd_session.specs.Machine.{Steps, GoesBack, Switches}

-- Stepping over an event and back leaves the state as it was: the table with its flags, and the position.
abbrev pub BackUndoesStep : Type 0
BackUndoesStep = (old mid new : State) (at to : ℕ) → Steps old (Moved at) mid → GoesBack mid (Ok to) new → (new ≡ old) × (to ≡ old.position)

-- So does switching an event over and back.
abbrev pub SwitchUndoesSwitch : Type 0
SwitchUndoesSwitch = (old mid new : State) (number at to : ℕ) (on : Bool) → Switches old number on (Moved at) mid
    → Switches mid number (not on) (Moved to) new → new ≡ old
