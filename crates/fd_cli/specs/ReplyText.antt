-- Promised. The texts of the replies to commands.
use Rattle.std.specs.Prelude.{ℕ, List, Result, Ok, Err, codes}
use Rattle.fd_blend.specs.declared.channel.Colour.{Colour}
use Rattle.fd_events.specs.Table.{state_at}
use Rattle.fd_history.specs.declared.entry.Entry.{Entry}
use Rattle.fd_frame.specs.State.{State}
use Rattle.fd_session.specs.declared.answer.Answer.{Answer}
use Rattle.fd_session.specs.declared.answer.Answer.TheVariants.{Moved, Stopped, Refused}
use Rattle.fd_session.specs.declared.answer.SessionFault.{SessionFault}
use Rattle.fd_session.specs.declared.answer.SessionFault.TheVariants.{AtEnd, AtStart, NoSuchPosition, NoSuchEvent, AlreadySo, NoSuchPixel, Memory}
use Rattle.fd_words.specs.Text.{number_line, pixel_line, state_line, event_list, entry_list}

abbrev pub refusal_line : SessionFault → List ℕ
refusal_line AtEnd = codes "refused 1 at end\n"
refusal_line AtStart = codes "refused 2 at start\n"
refusal_line NoSuchPosition = codes "refused 3 no such position\n"
refusal_line NoSuchEvent = codes "refused 4 no such event\n"
refusal_line AlreadySo = codes "refused 5 already so\n"
refusal_line NoSuchPixel = codes "refused 6 no such pixel\n"
refusal_line Memory = codes "refused 7 memory\n"

-- the reply to a move
abbrev pub answer_line : Answer → List ℕ
answer_line (Moved at) = number_line (codes "at") at
answer_line (Stopped at) = number_line (codes "stopped") at
answer_line (Refused fault) = refusal_line fault

-- the reply to going back
abbrev pub back_line : Result ℕ SessionFault → List ℕ
back_line (Ok at) = number_line (codes "at") at
back_line (Err fault) = refusal_line fault

-- the reply to `pixel`
abbrev pub pixel_text : ℕ → Result Colour SessionFault → Result ℕ SessionFault → List ℕ
pixel_text version (Ok colour) (Ok depth) = pixel_line version colour depth
pixel_text version (Ok colour) (Err fault) = refusal_line fault
pixel_text version (Err fault) depth = refusal_line fault

-- the reply to `events`
abbrev pub events_text : State → List ℕ
events_text state = event_list state.table state.position

-- the reply to `state`
abbrev pub state_text : State → List ℕ
state_text state = state_line state.table.version (state_at state.table state.position)

-- the reply to `history`
abbrev pub history_text : ℕ → Result (List Entry) SessionFault → List ℕ
history_text version (Ok entries) = entry_list version entries
history_text version (Err fault) = refusal_line fault
