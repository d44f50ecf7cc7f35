-- A run on a capture of version 2 writes what version 2 says.
use Rattle.std.proofs.Common.{◌≡◌, ℕ, ◌+◌, List, [], ◌∷◌, ◌++◌, length, Bool, false, cond, Result, Ok, Err, inl, inr, refl, sym, ap, ◌∙◌, ◌↔◌}
use Rattle.std.proofs.Common.{codes}
use Rattle.std.specs.List.{flat_map}
use Rattle.std.proofs.lemmas.List.Elements.{All-head, All-tail}
use Rattle.fd_blend.specs.declared.channel.Colour.{Colour}
use Rattle.fd_events.specs.declared.event.Event.{Event}
use Rattle.fd_events.specs.declared.event.Event.TheVariants.{Draw}
use Rattle.fd_events.specs.declared.pipeline.Pipeline.{Pipeline}
use Rattle.fd_events.specs.Draw.{triangles_of}
use Rattle.fd_events.specs.Image.{Pixel}
use Rattle.fd_events.specs.Table.{Table, is_of_picture, state_at}
use Rattle.fd_events.proofs.VersionTwos.{HaveNone, pixels_same, images_same}
use Rattle.fd_history.specs.declared.entry.Entry.{Entry}
use Rattle.fd_history.proofs.VersionTwos.{histories_same}
use Rattle.fd_capture.specs.Spelling.{interp_text}
use Rattle.fd_capture.proofs.VersionTwos.{reads_same}
use Rattle.fd_pam.specs.Pam.{header, pam_len, tuple}
use Rattle.fd_session.specs.declared.answer.SessionFault.{SessionFault}
use Rattle.fd_frame.specs.State.{State, opening}
use Rattle.fd_session.specs.Machine.{ShowsPixel, ShowsDepth, ShowsHistory}
use Rattle.fd_words.specs.declared.command.Command.{Command}
use Rattle.fd_words.specs.declared.command.Command.TheVariants.{Step, Goto, On, Off, Pixel as ShowPixel, History, State as ShowState, Events, Show}
use Rattle.fd_words.specs.declared.command.CommandFault.{CommandFault}
use Rattle.fd_words.specs.Line.{command_of}
use Rattle.fd_cli.specs.Run.{Answers, Run}
use Rattle.fd_cli.proofs.Transcripts.{asks_nothing, shows_nothing}
use Rattle.fd_cli.specs.Show.{show_text}
use Rattle.fd_words.specs.Text.{state_line, event_words, event_line, event_lines, event_list, events_head, entry_line, entry_list, number_line}
use Rattle.fd_words.specs.Text.{number_word, word}
use Rattle.fd_cli.specs.ReplyText.{pixel_text, state_text, history_text}
use Rattle.fd_cli.specs.VersionTwo as two
use Rattle.fd_cli.proofs.Staying.{answered}

-- a table of version 2, and a state with one
abbrev IsTwo : ℕ → List Event → Type 0
IsTwo version events = (version ≡ 2) × HaveNone events

abbrev IsSecond : State → Type 0
IsSecond state = IsTwo state.table.version state.table.events

-- ---- the same texts

module _ (state : State) (second : IsSecond state) where
  pixel_to : (x y : ℕ) (colour : Result Colour SessionFault) → ShowsPixel state x y colour → two.ShowsPixel state x y colour
  pixel_to x y (Ok c) shows = (shows.0, shows.1, shows.2 ∙ ap (λ (p : Pixel). p.0) (pixels_same state.table state.position x y second.1))
  pixel_to x y (Err fault) shows = shows

  pixel_from : (x y : ℕ) (colour : Result Colour SessionFault) → two.ShowsPixel state x y colour → ShowsPixel state x y colour
  pixel_from x y (Ok c) shows = (shows.0, shows.1, shows.2 ∙ sym (ap (λ (p : Pixel). p.0) (pixels_same state.table state.position x y second.1)))
  pixel_from x y (Err fault) shows = shows

  depth_to : (x y : ℕ) (depth : Result ℕ SessionFault) → ShowsDepth state x y depth → two.ShowsDepth state x y depth
  depth_to x y (Ok d) shows = (shows.0, shows.1, shows.2 ∙ ap (λ (p : Pixel). p.1) (pixels_same state.table state.position x y second.1))
  depth_to x y (Err fault) shows = shows

  depth_from : (x y : ℕ) (depth : Result ℕ SessionFault) → two.ShowsDepth state x y depth → ShowsDepth state x y depth
  depth_from x y (Ok d) shows = (shows.0, shows.1, shows.2 ∙ sym (ap (λ (p : Pixel). p.1) (pixels_same state.table state.position x y second.1)))
  depth_from x y (Err fault) shows = shows

  history_to : (x y : ℕ) (outcome : Result (List Entry) SessionFault) → ShowsHistory state x y outcome → two.ShowsHistory state x y outcome
  history_to x y (Ok entries) shows = (shows.0, shows.1, shows.2 ∙ histories_same state.table state.position x y second.1)
  history_to x y (Err fault) shows = shows

  history_from : (x y : ℕ) (outcome : Result (List Entry) SessionFault) → two.ShowsHistory state x y outcome → ShowsHistory state x y outcome
  history_from x y (Ok entries) shows = (shows.0, shows.1, shows.2 ∙ sym (histories_same state.table state.position x y second.1))
  history_from x y (Err fault) shows = shows

  pixel_same : (colour : Result Colour SessionFault) (depth : Result ℕ SessionFault) → pixel_text state.table.version colour depth ≡ two.pixel_text colour depth
  pixel_same (Ok c) (Ok d) = ap (λ v. pixel_text v (Ok c) (Ok d)) second.0
  pixel_same (Ok c) (Err fault) = refl
  pixel_same (Err fault) depth = refl

  state_line_same : (s : Pipeline) → state_line 2 s ≡ two.state_line s
  unfolding state_line two.state_line
  state_line_same s = refl

  state_same : state_text state ≡ two.state_text state
  state_same = ap (λ v. state_line v (state_at state.table state.position)) second.0 ∙ state_line_same (state_at state.table state.position)

  show_same : show_text state ≡ two.show_text state
  show_same =
      ap (λ colours. number_line (codes "pam") (pam_len state.table.width state.table.height) ++
      (header state.table.width state.table.height ++ flat_map tuple colours))
      (images_same state.table state.position second.1)

  entry_lines_same : (entries : List Entry) → flat_map (entry_line 2) entries ≡ flat_map two.entry_line entries
  unfolding entry_line two.entry_line
  entry_lines_same entries = refl

  entries_same : (entries : List Entry) → entry_list state.table.version entries ≡ two.entry_list entries
  entries_same entries =
      ap (λ v. entry_list v entries) second.0
      ∙ ap (λ lines. number_line (codes "history") (length entries) ++ lines) (entry_lines_same entries)

  history_same : (outcome : Result (List Entry) SessionFault) → history_text state.table.version outcome ≡ two.history_text outcome
  history_same (Ok entries) = entries_same entries
  history_same (Err fault) = refl

words_same : (e : Event) → is_of_picture e ≡ false → event_words e ≡ two.event_words e
words_same (Draw d) plain = ap (λ b. codes " draw" ++ number_word (length (triangles_of d)) ++ word (cond b (codes "picture") (interp_text d.interp))) plain
words_same other plain = refl

line_same : (number : ℕ) (e : Event) (on : Bool) → is_of_picture e ≡ false → event_line number e on ≡ two.event_line number e on
unfolding event_line two.event_line
line_same number e on plain = rw (words_same e plain) refl

lines_same : (number : ℕ) (events : List Event) (flags : List Bool) → HaveNone events → event_lines number events flags ≡ two.event_lines number events flags
lines_same number [] flags none = refl
lines_same number (e ∷ events) [] none = refl
lines_same number (e ∷ events) (on ∷ flags) none =
    ap (λ line. line ++ event_lines (number + 1) events flags) (line_same number e on (All-head (λ (f : Event). is_of_picture f ≡ false) e events none))
    ∙ ap (λ lines. two.event_line number e on ++ lines) (lines_same (number + 1) events flags (All-tail (λ (f : Event). is_of_picture f ≡ false) e events none))

list_same : (t : Table) (position : ℕ) → HaveNone t.events → event_list t position ≡ two.event_list t position
list_same t position none = ap (λ lines. events_head (length t.events) position ++ lines) (lines_same 1 t.events t.flags none)

-- ---- the same answers

answers_same : (command : Result Command CommandFault) (old new : State) (text : List ℕ) → IsSecond old
    → Answers (Unit {0}) old command text new ↔ two.Answers old command text new
answers_same (Ok (ShowPixel x y)) old new text second = (
  λ h. (h.0, h.1, pixel_to old second x y h.0 h.2, depth_to old second x y h.1 h.3, h.4 ∙ pixel_same old second h.0 h.1, h.5),
  λ h. (h.0, h.1, pixel_from old second x y h.0 h.2, depth_from old second x y h.1 h.3, h.4 ∙ sym (pixel_same old second h.0 h.1), h.5),
)
answers_same (Ok (History x y)) old new text second = (
  λ h. (h.0, history_to old second x y h.0 h.1, h.3 ∙ history_same old second h.0, h.4),
  λ h. (h.0, history_from old second x y h.0 h.1, shows_nothing h.0, h.2 ∙ sym (history_same old second h.0), h.3),
)
answers_same (Ok ShowState) old new text second = (λ h. (h.0 ∙ state_same old second, h.1), λ h. (h.0 ∙ sym (state_same old second), h.1))
answers_same (Ok Events) old new text second =
    let same = list_same old.table old.position second.1 in
    (λ h. (h.0 ∙ same, h.1), λ h. (h.0 ∙ sym same, h.1))
answers_same (Ok Show) old new text second = (
  λ h. (elim h.0 [ inl is ↦ inl (is ∙ show_same old second) | inr told ↦ inr told.0 ], h.1),
  λ h. (elim h.0 [ inl is ↦ inl (is ∙ sym (show_same old second)) | inr is ↦ inr (is, tt) ], h.1),
)
answers_same (Ok Step) old new text second = (λ h. (h.0, h.1, h.3), λ h. (h.0, h.1, asks_nothing h.0, h.2))
answers_same (Ok (Goto to)) old new text second = (λ h. (h.0, h.1, h.3), λ h. (h.0, h.1, asks_nothing h.0, h.2))
answers_same (Ok (On number)) old new text second = (λ h. (h.0, h.1, h.3), λ h. (h.0, h.1, asks_nothing h.0, h.2))
answers_same (Ok (Off number)) old new text second = (λ h. (h.0, h.1, h.3), λ h. (h.0, h.1, asks_nothing h.0, h.2))
answers_same other old new text second = (λ h. h, λ h. h)

run_same : (lines : List (List ℕ)) (old new : State) (text : List ℕ) → IsSecond old → Run (Unit {0}) old lines text new ↔ two.Run old lines text new
run_same [] old new text second = (λ h. h, λ h. h)
run_same (line ∷ lines) old new text second =
    let same = λ (mid : State) (reply : List ℕ). answers_same (command_of line) old mid reply second in
    let later = λ (mid : State) (reply others : List ℕ) (is : Answers (Unit {0}) old (command_of line) reply mid).
    run_same lines mid new others (answered IsTwo (command_of line) old mid reply is second) in (
      λ h. (h.0, h.1, h.2, (same h.1 h.0).0 h.3, (later h.1 h.0 h.2 h.3).0 h.4, h.5),
      λ h. let is = (same h.1 h.0).1 h.3 in (h.0, h.1, h.2, is, (later h.1 h.0 h.2 is).1 h.4, h.5),
    )

-- ---- the law

pub version_two_stays : two.VersionTwoStays
version_two_stays bytes t accepted =
    let found = reads_same bytes t accepted in
    let second : IsSecond (opening t) = (found.1, found.2) in
    record {
      read = found.0;
      without = found.2;
      pixels = λ flags k x y. pixels_same (record t { flags = flags }) k x y found.2;
      listed = λ position. list_same t position found.2;
      outputs = λ lines written new. run_same lines (opening t) new written second;
    }
