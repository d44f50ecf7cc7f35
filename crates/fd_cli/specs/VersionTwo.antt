-- Promised. What a run on a capture of version 2 may write: as it was defined before there was version 3; and the law that it still may, and nothing else.
use Rattle.std.specs.Prelude.{◌≡◌, ℕ, ◌+◌, ◌<◌, List, [], ◌∷◌, ◌++◌, Bool, true, false, Result, Ok, Err, All, codes, decimal, length, ◌⊎◌, ◌↔◌}
use Rattle.std.specs.List.{flat_map}
use Rattle.fd_blend.specs.declared.channel.Colour.{Colour}
use Rattle.fd_blend.specs.Mask.{bits_of}
use Rattle.fd_events.specs.declared.event.Event.{Event}
use Rattle.fd_events.specs.declared.event.Event.TheVariants.{Clear, SetRaster, SetScissor, SetBlend, SetFactor, SetDepth, DepthClear, Draw, Marker}
use Rattle.fd_events.specs.declared.pipeline.Pipeline.{Pipeline}
use Rattle.fd_events.specs.Draw.{triangles_of}
use Rattle.fd_events.specs.Table.{Table, state_at, is_of_picture}
use Rattle.fd_events.specs.Image as drawing
use Rattle.fd_events.specs.VersionTwo.{pixel_at, image_at}
use Rattle.fd_capture.specs.Spelling.{cull_text, interp_text}
use Rattle.fd_capture.specs.Capture.{capture_of}
use Rattle.fd_capture.specs.VersionTwo as capture
use Rattle.fd_history.specs.declared.entry.Entry.{Entry}
use Rattle.fd_history.specs.VersionTwo.{history_at}
use Rattle.fd_pam.specs.Pam.{header, pam_len, tuple}
use Rattle.fd_session.specs.declared.answer.Answer.{Answer}
use Rattle.fd_session.specs.declared.answer.SessionFault.{SessionFault}
use Rattle.fd_session.specs.declared.answer.SessionFault.TheVariants.{NoSuchPixel, Memory}
use Rattle.fd_frame.specs.State.{State, opening}
use Rattle.fd_session.specs.Machine.{Steps, GoesBack, Jumps, Switches, RefusesHistory}
use Rattle.fd_words.specs.declared.command.Command.{Command}
use Rattle.fd_words.specs.declared.command.Command.TheVariants.{Step, Back, Goto, On, Off, Pixel, History, State as ShowState, Events, Show, Quit}
use Rattle.fd_words.specs.declared.command.CommandFault.{CommandFault}
use Rattle.fd_words.specs.Line.{command_of}
use Rattle.fd_cli.specs.Run as run
use Rattle.fd_words.specs.Text as text
use Rattle.fd_words.specs.Text.{number_line, fault_line, word, number_word, truth_word, colour_words, rect_words, equation_words, depth_words, flag_word}
use Rattle.fd_words.specs.Text.{events_head, triangle_word}
use Rattle.fd_cli.specs.ReplyText.{refusal_line, answer_line, back_line}

-- ---- what a state shows

abbrev pub ShowsPixel : State → ℕ → ℕ → Result Colour SessionFault → Type 0
ShowsPixel state x y (Ok colour) = (x < state.table.width) × (y < state.table.height) × (colour ≡ (pixel_at state.table state.position x y).0)
ShowsPixel state x y (Err fault) = (fault ≡ NoSuchPixel) × (x < state.table.width → y < state.table.height → ⊥)

abbrev pub ShowsDepth : State → ℕ → ℕ → Result ℕ SessionFault → Type 0
ShowsDepth state x y (Ok depth) = (x < state.table.width) × (y < state.table.height) × (depth ≡ (pixel_at state.table state.position x y).1)
ShowsDepth state x y (Err fault) = (fault ≡ NoSuchPixel) × (x < state.table.width → y < state.table.height → ⊥)

abbrev pub ShowsHistory : State → ℕ → ℕ → Result (List Entry) SessionFault → Type 0
ShowsHistory state x y (Ok entries) = (x < state.table.width) × (y < state.table.height) × (entries ≡ history_at state.table state.position x y)
ShowsHistory state x y (Err fault) = RefusesHistory state x y fault

-- ---- texts

abbrev pub pixel_text : Result Colour SessionFault → Result ℕ SessionFault → List ℕ
pixel_text (Ok colour) (Ok depth) = codes "pixel" ++ colour_words colour ++ (number_word depth ++ codes "\n")
pixel_text (Ok colour) (Err fault) = refusal_line fault
pixel_text (Err fault) depth = refusal_line fault

unfoldable pub state_line : Pipeline → List ℕ
state_line s =
    codes "state cull" ++ word (cull_text s.raster.cull) ++ codes " ccw" ++ truth_word s.raster.front_ccw ++ codes " scissor" ++ truth_word s.raster.scissor
    ++ codes " rect" ++ rect_words s.scissor ++ codes " blend" ++ equation_words s.blend ++ codes " mask" ++ number_word (bits_of s.blend.mask)
    ++ codes " factor" ++ colour_words s.factor ++ ((codes " depth" ++ depth_words s.depth) ++ codes "\n")

abbrev pub state_text : State → List ℕ
state_text state = state_line (state_at state.table state.position)

-- what stands behind an event's number and flag
abbrev pub event_words : Event → List ℕ
event_words (Clear colour) = codes " clear" ++ colour_words colour
event_words (SetRaster r) = codes " raster" ++ word (cull_text r.cull) ++ truth_word r.front_ccw ++ truth_word r.scissor
event_words (SetScissor rect) = codes " scissor" ++ rect_words rect
event_words (SetBlend b) = codes " blend" ++ equation_words b ++ number_word (bits_of b.mask)
event_words (SetFactor colour) = codes " factor" ++ colour_words colour
event_words (SetDepth d) = codes " depth" ++ depth_words d
event_words (DepthClear depth) = codes " depth_clear" ++ number_word depth
event_words (Draw d) = codes " draw" ++ number_word (length (triangles_of d)) ++ word (interp_text d.interp)
event_words (Marker name) = codes " marker " ++ name

unfoldable pub event_line : ℕ → Event → Bool → List ℕ
event_line number event on = decimal number ++ flag_word on ++ event_words event ++ codes "\n"

abbrev pub event_lines : ℕ → List Event → List Bool → List ℕ
event_lines number [] flags = []
event_lines number (event ∷ events) [] = []
event_lines number (event ∷ events) (on ∷ flags) = event_line number event on ++ event_lines (number + 1) events flags

-- the list of a table's events at a position
abbrev pub event_list : Table → ℕ → List ℕ
event_list table position = events_head (length table.events) position ++ event_lines 1 table.events table.flags

abbrev pub events_text : State → List ℕ
events_text state = event_list state.table state.position

unfoldable pub entry_line : Entry → List ℕ
entry_line entry =
    decimal entry.event ++ triangle_word entry.triangle ++ word (text.verdict_text entry.verdict)
    ++ colour_words entry.source ++ colour_words entry.before ++ colour_words entry.after
    ++ ((number_word entry.source_depth ++ number_word entry.depth_before ++ number_word entry.depth_after) ++ codes "\n")

abbrev pub entry_list : List Entry → List ℕ
entry_list entries = number_line (codes "history") (length entries) ++ flat_map entry_line entries

abbrev pub history_text : Result (List Entry) SessionFault → List ℕ
history_text (Ok entries) = entry_list entries
history_text (Err fault) = refusal_line fault

-- the image file of what a state shows, and the reply to `show`
abbrev pub pam : State → List ℕ
pam state = header state.table.width state.table.height ++ flat_map tuple (image_at state.table state.position)

abbrev pub show_text : State → List ℕ
show_text state = number_line (codes "pam") (pam_len state.table.width state.table.height) ++ pam state

-- ---- runs

-- From old, a line that reads so may be answered with this text, which leaves new.
abbrev pub Answers : State → Result Command CommandFault → List ℕ → State → Type 0
Answers old (Err fault) text new = (text ≡ fault_line fault) × (new ≡ old)
Answers old (Ok Step) text new = (answer : Answer) × Steps old answer new × (text ≡ answer_line answer)
Answers old (Ok Back) text new = (outcome : Result ℕ SessionFault) × GoesBack old outcome new × (text ≡ back_line outcome)
Answers old (Ok (Goto to)) text new = (answer : Answer) × Jumps old to answer new × (text ≡ answer_line answer)
Answers old (Ok (On number)) text new = (answer : Answer) × Switches old number true answer new × (text ≡ answer_line answer)
Answers old (Ok (Off number)) text new = (answer : Answer) × Switches old number false answer new × (text ≡ answer_line answer)
Answers old (Ok (Pixel x y)) text new =
    (colour : Result Colour SessionFault) × (depth : Result ℕ SessionFault) × ShowsPixel old x y colour × ShowsDepth old x y depth
    × (text ≡ pixel_text colour depth) × (new ≡ old)
Answers old (Ok (History x y)) text new = (outcome : Result (List Entry) SessionFault) × ShowsHistory old x y outcome × (text ≡ history_text outcome)
    × (new ≡ old)
Answers old (Ok ShowState) text new = (text ≡ state_text old) × (new ≡ old)
Answers old (Ok Events) text new = (text ≡ events_text old) × (new ≡ old)
Answers old (Ok Show) text new = ((text ≡ show_text old) ⊎ (text ≡ refusal_line Memory)) × (new ≡ old)
Answers old (Ok Quit) text new = (text ≡ codes "bye\n") × (new ≡ old)

-- From old, these lines may be answered with this text, one after another, which leaves new.
abbrev pub Run : State → List (List ℕ) → List ℕ → State → Type 0
Run old [] text new = (text ≡ []) × (new ≡ old)
Run old (line ∷ lines) text new =
    (first : List ℕ) × (mid : State) × (others : List ℕ) × Answers old (command_of line) first mid × Run mid lines others new × (text ≡ first ++ others)

-- ---- the law

-- A capture stands for the same table, which has no picture; it shows the same colours and depths, whichever events are switched on; and over the
-- same lines of input the same texts may be written.
pub record Stays (bytes : List ℕ) (t : Table) : Type 0 where
  pub read : capture_of bytes ≡ Ok t
  pub without : All (λ event. is_of_picture event ≡ false) t.events
  pub pixels : (flags : List Bool) (k x y : ℕ) → drawing.pixel_at (record t { flags = flags }) k x y ≡ pixel_at (record t { flags = flags }) k x y
  pub listed : (position : ℕ) → text.event_list t position ≡ event_list t position
  pub outputs : (lines : List (List ℕ)) (written : List ℕ) (new : State) → run.Run (Unit {0}) (opening t) lines written new ↔ Run (opening t) lines written new

-- It does so for each capture that version 2 accepts.
abbrev pub VersionTwoStays : Type 0
VersionTwoStays = (bytes : List ℕ) (t : Table) → capture.capture_of bytes ≡ Ok t → Stays bytes t
