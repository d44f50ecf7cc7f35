-- Promised. What a run writes where memory is there: a function of the state that it begins in, and of the lines.
use Rattle.std.specs.Prelude.{◌≡◌, ℕ, ◌+◌, ◌-◌, ◌≤◌, List, [], ◌∷◌, ◌++◌, length, Bool, true, false, ◌&&◌, nat_lt, nat_le, Option, Some, None, Result, Ok}
use Rattle.std.specs.Prelude.{Err, codes, ◌⊎◌, if◌then◌else◌}
use Rattle.fd_events.specs.Table.{flag_at}
use Rattle.fd_events.specs.Image.{colour_at, stored_at}
use Rattle.fd_history.specs.History.{history_at}
use Rattle.fd_session.specs.declared.answer.SessionFault.{SessionFault}
use Rattle.fd_session.specs.declared.answer.SessionFault.TheVariants.{AtEnd, AtStart, NoSuchPosition, NoSuchEvent, AlreadySo, NoSuchPixel}
use Rattle.fd_frame.specs.State.{State, at_position, with_flag_at}
use Rattle.fd_words.specs.declared.command.Command.{Command}
use Rattle.fd_words.specs.declared.command.Command.TheVariants.{Step, Back, Goto, On, Off, Pixel, History, State as ShowState, Events, Show, Quit}
use Rattle.fd_words.specs.declared.command.CommandFault.{CommandFault}
use Rattle.fd_words.specs.Line.{command_of}
use Rattle.fd_cli.specs.Run.{Answers, Run, Evidence, NamesMemory, RunWithoutMemory}
use Rattle.fd_cli.specs.Show.{show_text}
use Rattle.fd_words.specs.Text.{number_line, fault_line, entry_list}
use Rattle.fd_cli.specs.ReplyText.{refusal_line, pixel_text, state_text, events_text}

-- a reply, and the state that it leaves
abbrev pub Reply : Type 0
Reply = List ℕ × State

abbrev pub moved_to : State → ℕ → Reply
moved_to state at = (number_line (codes "at") at, at_position state at)

abbrev pub refusal_reply : State → SessionFault → Reply
refusal_reply state fault = (refusal_line fault, state)

-- a switch, by the flag that the event has
abbrev pub switched : State → ℕ → Bool → Option Bool → Reply
switched state number on None = refusal_reply state NoSuchEvent
switched state number true (Some true) = refusal_reply state AlreadySo
switched state number false (Some false) = refusal_reply state AlreadySo
switched state number true (Some false) = (number_line (codes "at") state.position, with_flag_at state number true state.position)
switched state number false (Some true) = (number_line (codes "at") state.position, with_flag_at state number false state.position)

-- the reply, where the target has the pixel
abbrev pub at_pixel : State → ℕ → ℕ → List ℕ → Reply
at_pixel state x y text = if nat_lt x state.table.width && nat_lt y state.table.height then (text, state) else refusal_reply state NoSuchPixel

-- what a line that reads so is answered
abbrev pub replied : State → Result Command CommandFault → Reply
replied state (Err fault) = (fault_line fault, state)
replied state (Ok Step) = if nat_lt state.position (length state.table.events) then moved_to state (state.position + 1) else refusal_reply state AtEnd
replied state (Ok Back) = if nat_lt 0 state.position then moved_to state (state.position - 1) else refusal_reply state AtStart
replied state (Ok (Goto to)) = if nat_le to (length state.table.events) then moved_to state to else refusal_reply state NoSuchPosition
replied state (Ok (On number)) = switched state number true (flag_at state.table number)
replied state (Ok (Off number)) = switched state number false (flag_at state.table number)
replied state (Ok (Pixel x y)) = at_pixel state x y (pixel_text state.table.version (Ok (colour_at state.table state.position x y))
    (Ok (stored_at state.table state.position x y)))
replied state (Ok (History x y)) = at_pixel state x y (entry_list state.table.version (history_at state.table state.position x y))
replied state (Ok ShowState) = (state_text state, state)
replied state (Ok Events) = (events_text state, state)
replied state (Ok Show) = (show_text state, state)
replied state (Ok Quit) = (codes "bye\n", state)

-- what these lines are answered, one after another
abbrev pub transcript : State → List (List ℕ) → List ℕ
transcript state [] = []
transcript state (line ∷ lines) = (replied state (command_of line)).0 ++ transcript (replied state (command_of line)).1 lines

-- the state that they leave
abbrev pub left_by : State → List (List ℕ) → State
left_by state [] = state
left_by state (line ∷ lines) = left_by (replied state (command_of line)).1 lines

-- The text is the transcript up to a line whose reply tells of a want of memory, where `Want` holds. The machine may give that reply there, and it leaves a
-- state from which what follows is a run. Of the lines that are left, some first ones were answered in it.
pub record BreaksAtMemory (Want : Type 0) (state : State) (lines : List (List ℕ)) (text : List ℕ) : Type 0 where
  pub earlier : List (List ℕ)
  pub line : List ℕ
  pub later : List (List ℕ)
  pub unread : List (List ℕ)
  pub reply : List ℕ
  pub more : List ℕ
  pub left : State
  pub end : State
  pub cut : lines ≡ earlier ++ line ∷ (later ++ unread)
  pub wanted : Want
  pub answers : Answers Want (left_by state earlier) (command_of line) reply left
  pub names : NamesMemory reply
  pub goes_on : Run Want left later more end
  pub wrote : text ≡ transcript state earlier ++ (reply ++ more)

abbrev pub WritesUpToMemory : Type 0 → State → List (List ℕ) → List ℕ → Type 0
WritesUpToMemory Want state lines text = (text ≡ transcript state lines) ⊎ BreaksAtMemory Want state lines text

-- Every run writes the transcript of its lines, up to the first reply that tells of a want of memory, if there is one.
abbrev pub WritesTranscript : Type 0
WritesTranscript = (real : Bool) (state : State) (lines : List (List ℕ)) (text : List ℕ) (new : State) → Run (Evidence real) state lines text new
    → WritesUpToMemory (Evidence real) state lines text

-- The transcript is a run, in which no reply tells of a want of memory, from each state that a session has.
abbrev pub TranscriptRuns : Type 0
TranscriptRuns =
    (real : Bool) (state : State) (lines : List (List ℕ)) → state.position ≤ length state.table.events
    → RunWithoutMemory (Evidence real) state lines (transcript state lines) (left_by state lines)

-- A run in which no reply tells of one is a run, writes the whole transcript, and leaves the state that the transcript leaves. So memory alone is left open.
abbrev pub WithoutMemoryWritesAll : Type 0
WithoutMemoryWritesAll =
    (real : Bool) (state : State) (lines : List (List ℕ)) (text : List ℕ) (new : State) → RunWithoutMemory (Evidence real) state lines text new
    → Run (Evidence real) state lines text new × (text ≡ transcript state lines) × (new ≡ left_by state lines)
