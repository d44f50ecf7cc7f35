-- Working. A list of events.
use Rattle.std.specs.Prelude.{◌≡◌, ℕ, List, [], ◌∷◌, ◌++◌, length, Option, Some, None, Result, Ok, Err, nat_lt, if◌then◌else◌}
use Rattle.std.specs.Bool.{MatchBool}
use Rattle.std.specs.declared.alloc.Global.{Global}
use Rattle.std.specs.Prelude.{Vec}
use Rattle.fd_events.specs.declared.event.Event.{Event}
use Rattle.fd_capture.specs.declared.fault.CaptureFault.{CaptureFault}
use Rattle.serde_json.specs.Data.{Data}
use Rattle.fd_events.specs.Limits.{most_events}
use Rattle.fd_capture.specs.declared.fault.CaptureFault.TheVariants.{TooMany}
use Rattle.fd_capture.specs.Capture.{events_from}
use Rattle.fd_capture.specs.Fault.{Fails, Gives}

-- what `more` is after `events` and the event that was read, unless memory ran out
abbrev pub GivesMore : Result (Vec Event Global) CaptureFault → Result (Vec Event Global) CaptureFault → Result Event CaptureFault → Type 0
GivesMore (Ok events) (Ok more) (Ok event) = more.items ≡ events.items ++ event ∷ []
GivesMore (Ok events) (Ok more) (Err fault) = ⊥
GivesMore (Ok events) (Err fault) read = Fails fault read
GivesMore (Err first) (Ok more) read = ⊥
GivesMore (Err first) (Err fault) read = fault ≡ first

-- the same for the item of a number, past the limit for none
abbrev pub GivesNext : ℕ → Result (Vec Event Global) CaptureFault → Result (Vec Event Global) CaptureFault → Result Event CaptureFault → Type 0
GivesNext number events more read = MatchBool (nat_lt most_events number) (more ≡ Err TooMany) (GivesMore events more read)

-- the events of a version, if there are not too many
abbrev pub few_events : ℕ → List Data → Result (List Event) CaptureFault
few_events version ds = if nat_lt most_events (length ds) then Err TooMany else events_from version 1 ds

-- what was read of a list, if it is one
abbrev pub GivesListed : ℕ → Option (Result (Vec Event Global) CaptureFault) → Option (List Data) → Type 0
GivesListed version None None = Unit {0}
GivesListed version None (Some ds) = ⊥
GivesListed version (Some events) None = ⊥
GivesListed version (Some events) (Some ds) = Gives (λ (v : Vec Event Global). v.items) events (few_events version ds)
