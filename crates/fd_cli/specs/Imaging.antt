-- Promised. What a call that writes an image has written, by how it ends.
use Rattle.std.specs.Prelude.{◌≡◌, ℕ, ◌<◌, ◌≤◌, List, [], length, Option, Some, None}
use Rattle.fd_events.specs.Table.{Table}
use Rattle.fd_pam.specs.Pam.{pam}
use Rattle.fd_frame.specs.State.{State, opening, at_position}
use Rattle.fd_words.specs.declared.ending.Ending.{Ending}
use Rattle.fd_words.specs.declared.ending.Ending.TheVariants.{NoSuchPosition, Memory}
use Rattle.fd_listing.specs.Opening.{OfCapture}
use Rattle.fd_listing.specs.Listing.{WritesText}

-- The image file of what a state shows was written, or memory was wanted before the first byte.
abbrev pub ShowsState : State → List ℕ → Ending → Type 0
ShowsState state written Memory = written ≡ []
ShowsState state written other = WritesText (pam state) written other

-- the position that is asked for, or the last one
abbrev pub position_asked : Table → Option ℕ → ℕ
position_asked table None = length table.events
position_asked table (Some at) = at

-- what a session of the table shows at a position
abbrev pub state_shown : Table → Option ℕ → State
state_shown table at = at_position (opening table) (position_asked table at)

-- There is no such position exactly where it is past the last event. Nothing is written unless it is reached.
abbrev pub ImagesTable : Table → Option ℕ → List ℕ → Ending → Type 0
ImagesTable table at written NoSuchPosition = (length table.events < position_asked table at) × (written ≡ [])
ImagesTable table at written Memory = written ≡ []
ImagesTable table at written other = (position_asked table at ≤ length table.events) × ShowsState (state_shown table at) written other

-- The image of a capture at a position: where the capture is refused, nothing is written.
abbrev pub WritesImage : List ℕ → Option ℕ → List ℕ → Ending → Type 0
WritesImage capture at written ending = OfCapture capture ending (written ≡ []) (λ table. ImagesTable table at written ending)
