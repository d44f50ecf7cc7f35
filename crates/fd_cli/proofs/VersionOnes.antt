-- A run on a capture of version 1 writes what version 1 says.
use Rattle.std.proofs.Common.{◌≡◌, ℕ, ◌+◌, List, [], ◌∷◌, ◌++◌, map, length, Bool, false, Result, Ok, Err, inl, inr, refl, sym, ap, ◌∙◌, ◌↔◌}
use Rattle.std.proofs.Common.{codes, cond}
use Rattle.std.specs.Prelude.{is_some}
use Rattle.std.specs.List.{flat_map}
use Rattle.std.proofs.lemmas.List.{length-map}
use Rattle.std.proofs.lemmas.List.Folds.{flat_map-map}
use Rattle.std.proofs.lemmas.List.Elements.{All-head, All-tail}
use Rattle.fd_blend.specs.declared.channel.Colour.{Colour}
use Rattle.fd_events.specs.declared.event.Event.{Event}
use Rattle.fd_events.specs.declared.event.Event.TheVariants.{SetDepth, DepthClear, Draw}
use Rattle.fd_events.specs.declared.pipeline.Pipeline.{Pipeline}
use Rattle.fd_events.specs.Draw.{triangles_of}
use Rattle.fd_events.specs.Image.{stored_at}
use Rattle.fd_events.specs.Table.{Table, is_of_depth, state_at}
use Rattle.fd_events.specs.VersionOne as drawing
use Rattle.fd_events.proofs.VersionOnes.{ArePlain, states_same, colours_same, images_same}
use Rattle.fd_history.specs.declared.entry.Entry.{Entry}
use Rattle.fd_history.specs.History.{history_at}
use Rattle.fd_history.specs.VersionOne as past
use Rattle.fd_history.proofs.VersionOnes.{without_depths, histories_same}
use Rattle.fd_capture.specs.Spelling.{interp_text}
use Rattle.fd_capture.proofs.VersionOnes.{reads_same}
use Rattle.fd_pam.specs.Pam.{header, pam_len, tuple}
use Rattle.fd_session.specs.declared.answer.SessionFault.{SessionFault}
use Rattle.fd_frame.specs.State.{State, opening}
use Rattle.fd_session.specs.Machine.{ShowsPixel, ShowsDepth, ShowsHistory}
use Rattle.fd_words.specs.declared.command.Command.{Command}
use Rattle.fd_words.specs.declared.command.Command.TheVariants.{Step, Goto, On, Off, Pixel, History, State as ShowState, Events, Show}
use Rattle.fd_words.specs.declared.command.CommandFault.{CommandFault}
use Rattle.fd_words.specs.Line.{command_of}
use Rattle.fd_cli.specs.Run.{Answers, Run}
use Rattle.fd_cli.proofs.Transcripts.{asks_nothing, shows_nothing}
use Rattle.fd_cli.specs.Show.{show_text}
use Rattle.fd_words.specs.Text.{state_line, event_words, event_line, event_lines, event_list, events_head, entry_line, entry_list, number_line}
use Rattle.fd_words.specs.Text.{number_word, word}
use Rattle.fd_cli.specs.ReplyText.{pixel_text, state_text, history_text}
use Rattle.fd_cli.specs.VersionOne as one
use Rattle.fd_cli.proofs.Staying.{answered}

-- a table of version 1, and a state with one
abbrev IsOne : ℕ → List Event → Type 0
IsOne version events = (version ≡ 1) × ArePlain events

abbrev IsFirst : State → Type 0
IsFirst state = IsOne state.table.version state.table.events

-- ---- the same texts

module _ (state : State) (first : IsFirst state) where
  pixel_same : (colour : Colour) (depth : ℕ) → pixel_text state.table.version (Ok colour) (Ok depth) ≡ one.pixel_text (Ok colour)
  pixel_same colour depth = ap (λ v. pixel_text v (Ok colour) (Ok depth)) first.0

  pixel_to : (x y : ℕ) (colour : Result Colour SessionFault) (depth : Result ℕ SessionFault) → ShowsPixel state x y colour → ShowsDepth state x y depth
      → one.ShowsPixel state x y colour × (pixel_text state.table.version colour depth ≡ one.pixel_text colour)
  pixel_to x y (Ok c) (Ok d) shows deep = ((shows.0, shows.1, shows.2 ∙ colours_same state.table state.position x y first.1), pixel_same c d)
  pixel_to x y (Ok c) (Err fault) shows deep = absurd (deep.1 shows.0 shows.1)
  pixel_to x y (Err fault) depth shows deep = (shows, refl)

  pixel_from : (x y : ℕ) (colour : Result Colour SessionFault) → one.ShowsPixel state x y colour
      → (depth : Result ℕ SessionFault) × ShowsPixel state x y colour × ShowsDepth state x y depth
      × (pixel_text state.table.version colour depth ≡ one.pixel_text colour)
  pixel_from x y (Ok c) shows =
      let colour = shows.2 ∙ sym (colours_same state.table state.position x y first.1) in
      (Ok _, (shows.0, shows.1, colour), (shows.0, shows.1, refl), pixel_same c (stored_at state.table state.position x y))
  pixel_from x y (Err fault) shows = (Err fault, shows, shows, refl)

  state_line_same : (s : Pipeline) → state_line 1 s ≡ one.state_line s
  unfolding state_line one.state_line
  state_line_same s = refl

  state_same : state_text state ≡ one.state_text state
  state_same =
      ap (λ v. state_line v (state_at state.table state.position)) first.0
      ∙ state_line_same (state_at state.table state.position)
      ∙ ap one.state_line (states_same state.table.events state.table.flags state.position first.1).0

  show_same : show_text state ≡ one.show_text state
  show_same =
      ap (λ colours. number_line (codes "pam") (pam_len state.table.width state.table.height) ++
      (header state.table.width state.table.height ++ flat_map tuple colours))
      (images_same state.table state.position first.1)

words_same : (e : Event) → is_of_depth e ≡ false → event_words e ≡ one.event_words e
words_same (SetDepth depth) plain = absurd (cc)
words_same (DepthClear depth) plain = absurd (cc)
words_same (Draw d) plain = ap (λ b. codes " draw" ++ number_word (length (triangles_of d)) ++ word (cond b (codes "picture") (interp_text d.interp))) plain
words_same other plain = refl

line_same : (number : ℕ) (e : Event) (on : Bool) → is_of_depth e ≡ false → event_line number e on ≡ one.event_line number e on
unfolding event_line one.event_line
line_same number e on plain = rw (words_same e plain) refl

lines_same : (number : ℕ) (events : List Event) (flags : List Bool) → ArePlain events → event_lines number events flags ≡ one.event_lines number events flags
lines_same number [] flags plain = refl
lines_same number (e ∷ events) [] plain = refl
lines_same number (e ∷ events) (on ∷ flags) plain =
    ap (λ line. line ++ event_lines (number + 1) events flags) (line_same number e on (All-head (λ (f : Event). is_of_depth f ≡ false) e events plain))
    ∙ ap (λ lines. one.event_line number e on ++ lines) (lines_same (number + 1) events flags (All-tail (λ (f : Event). is_of_depth f ≡ false) e events plain))

list_same : (t : Table) (position : ℕ) → ArePlain t.events → event_list t position ≡ one.event_list t position
list_same t position plain = ap (λ lines. events_head (length t.events) position ++ lines) (lines_same 1 t.events t.flags plain)

entry_lines_same : (entries : List Entry) → flat_map (entry_line 1) entries ≡ flat_map one.entry_line (map without_depths entries)
unfolding entry_line one.entry_line
entry_lines_same entries = sym (flat_map-map one.entry_line without_depths entries)

entries_same : (version : ℕ) (entries : List Entry) → version ≡ 1 → entry_list version entries ≡ one.entry_list (map without_depths entries)
entries_same version entries is =
    ap (λ v. entry_list v entries) is
    ∙ ap (λ n. number_line (codes "history") n ++ flat_map (entry_line 1) entries) (sym (length-map entries without_depths))
    ∙ ap (λ lines. number_line (codes "history") (length (map without_depths entries)) ++ lines) (entry_lines_same entries)

module _ (state : State) (first : IsFirst state) where
  history_to : (x y : ℕ) (outcome : Result (List Entry) SessionFault) → ShowsHistory state x y outcome
      → (older : Result (List past.Entry) SessionFault) × one.ShowsHistory state x y older × (history_text state.table.version outcome ≡ one.history_text older)
  history_to x y (Ok entries) shows =
      let older = ap (map without_depths) shows.2 ∙ histories_same state.table state.position x y first.1 in
      (Ok (map without_depths entries), (shows.0, shows.1, older), entries_same state.table.version entries first.0)
  history_to x y (Err fault) shows = (Err fault, shows, refl)

  history_from : (x y : ℕ) (older : Result (List past.Entry) SessionFault) → one.ShowsHistory state x y older
      → (outcome : Result (List Entry) SessionFault) × ShowsHistory state x y outcome × (history_text state.table.version outcome ≡ one.history_text older)
  history_from x y (Ok entries) shows =
      let now = history_at state.table state.position x y in
      let older = ap one.entry_list (histories_same state.table state.position x y first.1 ∙ sym shows.2) in
      (Ok now, (shows.0, shows.1, refl), entries_same state.table.version now first.0 ∙ older)
  history_from x y (Err fault) shows = (Err fault, shows, refl)

-- ---- the same answers

answers_same : (command : Result Command CommandFault) (old new : State) (text : List ℕ) → IsFirst old
    → Answers (Unit {0}) old command text new ↔ one.Answers old command text new
answers_same (Ok (Pixel x y)) old new text first = (
  λ h. let shown = pixel_to old first x y h.0 h.1 h.2 h.3 in (h.0, shown.0, h.4 ∙ shown.1, h.5),
  λ h. let shown = pixel_from old first x y h.0 h.1 in (h.0, shown.0, shown.1, shown.2, h.2 ∙ sym shown.3, h.3),
)
answers_same (Ok (History x y)) old new text first = (
  λ h. let shown = history_to old first x y h.0 h.1 in (shown.0, shown.1, h.3 ∙ shown.2, h.4),
  λ h. let shown = history_from old first x y h.0 h.1 in (shown.0, shown.1, shows_nothing shown.0, h.2 ∙ sym shown.2, h.3),
)
answers_same (Ok ShowState) old new text first = (λ h. (h.0 ∙ state_same old first, h.1), λ h. (h.0 ∙ sym (state_same old first), h.1))
answers_same (Ok Events) old new text first =
    let same = list_same old.table old.position first.1 in
    (λ h. (h.0 ∙ same, h.1), λ h. (h.0 ∙ sym same, h.1))
answers_same (Ok Show) old new text first = (
  λ h. (elim h.0 [ inl is ↦ inl (is ∙ show_same old first) | inr told ↦ inr told.0 ], h.1),
  λ h. (elim h.0 [ inl is ↦ inl (is ∙ sym (show_same old first)) | inr is ↦ inr (is, tt) ], h.1),
)
answers_same (Ok Step) old new text first = (λ h. (h.0, h.1, h.3), λ h. (h.0, h.1, asks_nothing h.0, h.2))
answers_same (Ok (Goto to)) old new text first = (λ h. (h.0, h.1, h.3), λ h. (h.0, h.1, asks_nothing h.0, h.2))
answers_same (Ok (On number)) old new text first = (λ h. (h.0, h.1, h.3), λ h. (h.0, h.1, asks_nothing h.0, h.2))
answers_same (Ok (Off number)) old new text first = (λ h. (h.0, h.1, h.3), λ h. (h.0, h.1, asks_nothing h.0, h.2))
answers_same other old new text first = (λ h. h, λ h. h)

run_same : (lines : List (List ℕ)) (old new : State) (text : List ℕ) → IsFirst old → Run (Unit {0}) old lines text new ↔ one.Run old lines text new
run_same [] old new text first = (λ h. h, λ h. h)
run_same (line ∷ lines) old new text first =
    let same = λ (mid : State) (reply : List ℕ). answers_same (command_of line) old mid reply first in
    let later = λ (mid : State) (reply others : List ℕ) (is : Answers (Unit {0}) old (command_of line) reply mid).
    run_same lines mid new others (answered IsOne (command_of line) old mid reply is first) in (
      λ h. (h.0, h.1, h.2, (same h.1 h.0).0 h.3, (later h.1 h.0 h.2 h.3).0 h.4, h.5),
      λ h. let is = (same h.1 h.0).1 h.3 in (h.0, h.1, h.2, is, (later h.1 h.0 h.2 is).1 h.4, h.5),
    )

-- ---- the law

plain_from_flat : (e : Event) → drawing.IsFlat e → is_of_depth e ≡ false
plain_from_flat (SetDepth depth) flat = absurd flat
plain_from_flat (DepthClear depth) flat = absurd flat
plain_from_flat (Draw draw) flat = ap is_some flat.1
plain_from_flat other flat = refl

pub version_one_stays : one.VersionOneStays
version_one_stays bytes t accepted =
    let found = reads_same bytes t accepted in
    let plain : ArePlain t.events = λ k d within. plain_from_flat _ (found.2 k d within) in
    let first : IsFirst (opening t) = (found.1, plain) in
    record {
      read = found.0;
      flat = found.2;
      colours = λ flags k x y. colours_same (record t { flags = flags }) k x y plain;
      listed = λ position. list_same t position plain;
      outputs = λ lines written new. run_same lines (opening t) new written first;
    }
