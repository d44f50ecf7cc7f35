-- Every run writes the transcript, up to the first reply that tells of a want of memory, and the transcript is a run in which none does.
use Rattle.std.proofs.Common.{◌≡◌, ℕ, zero, suc, ◌+◌, ◌-◌, ◌<◌, ◌≤◌, List, [], ◌∷◌, ◌++◌, length, codes, Option, Some, None, Bool, true, false, cond, eqb}
use Rattle.std.proofs.Common.{Result, Ok, Err, refl, sym, ap, ◌∙◌, arith, inl, inr, ◌⊎◌, append_assoc, append-nil, subst}
use Rattle.std.specs.Prelude.{not, ◌&&◌, nat_lt, nat_le, slice_index}
use Rattle.std.proofs.lemmas.Bool.{lt-ltb, le-ltb, le-leb, lt-leb, ltb-true, ltb-false, leb-true, leb-false, eqb-false}
use Rattle.std.proofs.lemmas.Bool.Decides.{nat_tests}
use Rattle.fd_events.specs.Table.{Table, flag_at, with_flag}
use Rattle.fd_events.specs.Image.{colour_at, stored_at}
use Rattle.fd_history.specs.History.{history_at}
use Rattle.fd_session.specs.declared.answer.Answer.{Answer}
use Rattle.fd_session.specs.declared.answer.SessionFault.{SessionFault}
use Rattle.fd_session.specs.declared.answer.Answer.TheVariants.{Moved, Stopped, Refused}
use Rattle.fd_session.specs.declared.answer.SessionFault.TheVariants.{AtEnd, AtStart, NoSuchPosition, NoSuchEvent, AlreadySo, NoSuchPixel, Memory}
use Rattle.fd_frame.specs.State.{State, with_flag_at}
use Rattle.fd_memory.specs.Wanting.{Wanted}
use Rattle.fd_session.specs.Machine.{Switches, OnWant, OnMemory}
use Rattle.fd_words.specs.declared.command.Command.{Command}
use Rattle.fd_words.specs.declared.command.Command.TheVariants.{Step, Back, Goto, On, Off, Pixel, History, State as ShowState, Show}
use Rattle.fd_words.specs.declared.command.CommandFault.{CommandFault}
use Rattle.fd_words.specs.declared.command.CommandFault.TheVariants.{Unknown}
use Rattle.fd_words.specs.Line.{command_of}
use Rattle.fd_words.specs.Text.{number_line, entry_list, state_line}
use Rattle.fd_cli.specs.Run.{Answers, Run, Evidence, NamesMemory, RunWithoutMemory, RunsForget}
use Rattle.fd_cli.specs.ReplyText.{answer_line, pixel_text, state_text}
use Rattle.fd_cli.specs.Transcript.{Reply, moved_to, refusal_reply, switched, replied, transcript, left_by, WritesUpToMemory}
use Rattle.fd_cli.specs.Transcript.{WritesTranscript, TranscriptRuns, WithoutMemoryWritesAll}

-- ---- what may be replied is the transcript's reply, or tells of a want of memory

-- the reply and the state are these
abbrev Is : List ℕ → State → Reply → Type 0
Is text new r = let left : Reply = (text, new) in left ≡ r

abbrev OrMemory : Type 0 → List ℕ → State → Reply → Type 0
OrMemory Want text new r = (NamesMemory text × Want) ⊎ Is text new r

switched_as : (old : State) (number : ℕ) (on : Bool) → (switched old number on None ≡ refusal_reply old NoSuchEvent)
    × (switched old number on (Some on) ≡ refusal_reply old AlreadySo)
    × (switched old number on (Some (not on)) ≡ (number_line (codes "at") old.position, with_flag_at old number on old.position))
switched_as old number true = (refl, refl, refl)
switched_as old number false = (refl, refl, refl)

switch_or : (Want : Type 0) (old : State) (number : ℕ) (on : Bool) (answer : Answer) (text : List ℕ) (new : State) → Switches old number on answer new
    → OnWant Want answer → text ≡ answer_line answer
    → OrMemory Want text new (switched old number on (flag_at old.table number))
switch_or Want old number on (Moved at) text new h w is = inr (rw (h.0, (switched_as old number on).2) (cc))
switch_or Want old number on (Stopped at) text new h w is = inl (inl (at, is), w)
switch_or Want old number on (Refused NoSuchEvent) text new h w is = inr (rw (h.0, (switched_as old number on).0) (cc))
switch_or Want old number on (Refused AlreadySo) text new h w is = inr (rw (h.0, (switched_as old number on).1) (cc))
switch_or Want old number on (Refused other) text new h w is = absurd h.0

-- a pixel that the target has, and one that it hasn't
inside : (x y w h : ℕ) → x < w → y < h → (nat_lt x w && nat_lt y h) ≡ true
inside x y w h a b = grind (arith, nat_tests)

outside : (x y w h : ℕ) → (x < w → y < h → ⊥) → (nat_lt x w && nat_lt y h) ≡ false
outside x y w h none = grind (arith, nat_tests)

answer_or : (Want : Type 0) (old : State) (command : Result Command CommandFault) (text : List ℕ) (new : State) → Answers Want old command text new
    → OrMemory Want text new (replied old command)
answer_or Want old (Ok Step) text new (Moved at, h, w, is) = inr (rw (lt-ltb old.position (length old.table.events) h.0) (cc))
answer_or Want old (Ok Step) text new (Stopped at, h, w, is) = inl (inl (at, is), w)
answer_or Want old (Ok Step) text new (Refused AtEnd, h, w, is) = inr (rw (le-ltb old.position (length old.table.events) (omega (arith, h.0))) (cc))
answer_or Want old (Ok Step) text new (Refused Memory, h, w, is) = inl (inr is, w)
answer_or Want old (Ok Step) text new (Refused other, h, w, is) = absurd h.0
answer_or Want old (Ok Back) text new (Ok at, h, is) =
    let at_is : at ≡ old.position - 1 = omega (arith, h.1) in
    inr (rw (lt-ltb 0 old.position h.0) (cc))
answer_or Want old (Ok Back) text new (Err fault, h, is) = inr (rw (le-ltb 0 old.position (omega (arith, h.0))) (cc))
answer_or Want old (Ok (Goto to)) text new (Moved at, h, w, is) = inr (rw (le-leb to (length old.table.events) h.0) (cc))
answer_or Want old (Ok (Goto to)) text new (Stopped at, h, w, is) = inl (inl (at, is), w)
answer_or Want old (Ok (Goto to)) text new (Refused NoSuchPosition, h, w, is) = inr (rw (lt-leb to (length old.table.events) h.0) (cc))
answer_or Want old (Ok (Goto to)) text new (Refused Memory, h, w, is) = inl (inr is, w)
answer_or Want old (Ok (Goto to)) text new (Refused other, h, w, is) = absurd h.0
answer_or Want old (Ok (On number)) text new h = switch_or Want old number true h.0 text new h.1 h.2 h.3
answer_or Want old (Ok (Off number)) text new h = switch_or Want old number false h.0 text new h.1 h.2 h.3
answer_or Want old (Ok (Pixel x y)) text new (Ok colour, Ok depth, h, e, is, same) = inr (rw (inside x y old.table.width old.table.height h.0 h.1) (cc))
answer_or Want old (Ok (Pixel x y)) text new (Ok colour, Err fault, h, e, is, same) = absurd (e.1 h.0 h.1)
answer_or Want old (Ok (Pixel x y)) text new (Err fault, depth, h, e, is, same) = inr (rw (outside x y old.table.width old.table.height h.1) (cc))
answer_or Want old (Ok (History x y)) text new (Ok entries, h, w, is, same) = inr (rw (inside x y old.table.width old.table.height h.0 h.1) (cc))
answer_or Want old (Ok (History x y)) text new (Err NoSuchPixel, h, w, is, same) = inr (rw (outside x y old.table.width old.table.height h) (cc))
answer_or Want old (Ok (History x y)) text new (Err Memory, h, w, is, same) = inl (inr is, w)
answer_or Want old (Ok (History x y)) text new (Err other, h, w, is, same) = absurd h
answer_or Want old (Ok Show) text new (inl is, same) = inr (cc)
answer_or Want old (Ok Show) text new (inr told, same) = inl (inr told.0, told.1)
answer_or Want old other text new h = inr (cc)

-- ---- line by line

-- one line more
one_more : (Want : Type 0) (old : State) (line : List ℕ) (lines : List (List ℕ)) (first others text : List ℕ) (mid new : State) → text ≡ first ++ others
    → Answers Want old (command_of line) first mid → Run Want mid lines others new
    → OrMemory Want first mid (replied old (command_of line)) → WritesUpToMemory Want mid lines others → WritesUpToMemory Want old (line ∷ lines) text
one_more Want old line lines first others text mid new whole answers run (inl names) later =
    let cut = ap (λ (ls : List (List ℕ)). line ∷ ls) (sym (append-nil lines)) in
    inr (record {
      earlier = [];
      line = line;
      later = lines;
      unread = [];
      reply = first;
      more = others;
      left = mid;
      end = new;
      cut = cut;
      wanted = names.1;
      answers = answers;
      names = names.0;
      goes_on = run;
      wrote = whole;
    })
one_more Want old line lines first others text mid new whole answers run (inr same) (inl is) =
    inl (whole ∙ ap (λ (xs : List ℕ). first ++ xs) is ∙ ap (λ (r : Reply). r.0 ++ transcript r.1 lines) same)
one_more Want old line lines first others text mid new whole answers run (inr same) (inr b) =
    let cut = ap (λ (ls : List (List ℕ)). line ∷ ls) b.cut in
    let wrote = whole ∙ ap (λ (xs : List ℕ). first ++ xs) b.wrote ∙ sym (append_assoc first (transcript mid b.earlier) (b.reply ++ b.more))
    ∙ ap (λ (r : Reply). (r.0 ++ transcript r.1 b.earlier) ++ (b.reply ++ b.more)) same in
    let there = subst (λ (r : Reply). Answers Want (left_by r.1 b.earlier) (command_of b.line) b.reply b.left) same b.answers in
    inr (record {
      earlier = line ∷ b.earlier;
      line = b.line;
      later = b.later;
      unread = b.unread;
      reply = b.reply;
      more = b.more;
      left = b.left;
      end = b.end;
      cut = cut;
      wanted = b.wanted;
      answers = there;
      names = b.names;
      goes_on = b.goes_on;
      wrote = wrote;
    })

writes_so_far : (Want : Type 0) (old : State) (lines : List (List ℕ)) (text : List ℕ) (new : State) → Run Want old lines text new
    → WritesUpToMemory Want old lines text
writes_so_far Want old [] text new h = inl h.0
writes_so_far Want old (line ∷ lines) text new h =
    one_more Want old line lines h.0 h.2 text h.1 new h.5 h.3 h.4 (answer_or Want old (command_of line) h.0 h.1 h.3)
    (writes_so_far Want h.1 lines h.2 new h.4)

pub writes_transcript : WritesTranscript
writes_transcript real old lines text new h = writes_so_far (Evidence real) old lines text new h

all_written : (Want : Type 0) (old : State) (lines : List (List ℕ)) (text : List ℕ) (new : State) → RunWithoutMemory Want old lines text new
    → Run Want old lines text new × (text ≡ transcript old lines) × (new ≡ left_by old lines)
all_written Want old [] text new h = (h, h.0, h.1)
all_written Want old (line ∷ lines) text new h =
    let rest = all_written Want h.1 lines h.2 new h.5 in
    elim (answer_or Want old (command_of line) h.0 h.1 h.3) [
      | inl names ↦ absurd (h.4 names.0)
      | inr same ↦
          let wrote = h.6 ∙ ap (λ (xs : List ℕ). h.0 ++ xs) rest.1 ∙ ap (λ (r : Reply). r.0 ++ transcript r.1 lines) same in
          ((h.0, h.1, h.2, h.3, rest.0, h.6), wrote, rest.2 ∙ ap (λ (r : Reply). left_by r.1 lines) same)
    ]

pub writes_all : WithoutMemoryWritesAll
writes_all real old lines text new h = all_written (Evidence real) old lines text new h

-- ---- which replies name no memory: the third byte tells them from "stopped" and "refused", and the ninth one refusal from another

abbrev Free : List ℕ → Type 0
Free text = NamesMemory text → ⊥

free : (text : List ℕ) (byte : ℕ) → slice_index text 2 ≡ byte → eqb byte 111 ≡ false → eqb byte 102 ≡ false → Free text
free text byte is a b (inl stopped) = eqb-false byte 111 a (sym is ∙ ap (λ (t : List ℕ). slice_index t 2) stopped.1)
free text byte is a b (inr names) = eqb-false byte 102 b (sym is ∙ ap (λ (t : List ℕ). slice_index t 2) names)

free_refusal : (text : List ℕ) (digit : ℕ) → slice_index text 2 ≡ 102 → slice_index text 8 ≡ digit → eqb digit 55 ≡ false → Free text
free_refusal text digit is at other (inl stopped) = eqb-false 102 111 refl (sym is ∙ ap (λ (t : List ℕ). slice_index t 2) stopped.1)
free_refusal text digit is at other (inr names) = eqb-false digit 55 other (sym at ∙ ap (λ (t : List ℕ). slice_index t 8) names)

-- ---- the transcript's reply to each command

abbrev Within : State → Type 0
Within state = state.position ≤ length state.table.events

-- The machine allows it, it names no memory, and the position is one of the frame's.
abbrev Allowed : Type 0 → State → Result Command CommandFault → Reply → Type 0
Allowed Want state command r = Answers Want state command r.0 r.1 × Free r.0 × Within r.1

bad : (Want : Type 0) (state : State) (fault : CommandFault) → Within state → Allowed Want state (Err fault) (replied state (Err fault))
bad Want state Unknown within = ((refl, refl), free _ 100 refl refl refl, within)
bad Want state other within = ((refl, refl), free _ 100 refl refl refl, within)

step : (Want : Type 0) (state : State) → Within state → (b : Bool) → nat_lt state.position (length state.table.events) ≡ b
    → Allowed Want state (Ok Step) (cond b (moved_to state (state.position + 1)) (refusal_reply state AtEnd))
step Want state within true is =
    let before = ltb-true state.position (length state.table.events) is in
    ((Moved (state.position + 1), (before, refl, refl), tt, refl), free _ 32 refl refl refl, omega (arith, before))
step Want state within false is = (
  (Refused AtEnd, (omega (arith, ltb-false state.position (length state.table.events) is), refl), tt, refl),
  free_refusal _ 49 refl refl refl,
  within,
)

back : (Want : Type 0) (state : State) → Within state → (b : Bool) → nat_lt 0 state.position ≡ b
    → Allowed Want state (Ok Back) (cond b (moved_to state (state.position - 1)) (refusal_reply state AtStart))
back Want state within true is =
    let some = ltb-true 0 state.position is in
    ((Ok (state.position - 1), (some, omega (arith, some), refl), refl), free _ 32 refl refl refl, omega (arith, within))
back Want state within false is = ((Err AtStart, (omega (arith, ltb-false 0 state.position is), refl, refl), refl), free_refusal _ 50 refl refl refl, within)

jump : (Want : Type 0) (state : State) (to : ℕ) → Within state → (b : Bool) → nat_le to (length state.table.events) ≡ b
    → Allowed Want state (Ok (Goto to)) (cond b (moved_to state to) (refusal_reply state NoSuchPosition))
jump Want state to within true is =
    let there = leb-true to (length state.table.events) is in ((Moved to, (there, refl, refl), tt, refl), free _ 32 refl refl refl, there)
jump Want state to within false is = (
  (Refused NoSuchPosition, (leb-false to (length state.table.events) is, refl), tt, refl),
  free_refusal _ 51 refl refl refl,
  within,
)

same_events : (table : Table) (number : ℕ) (on : Bool) → length (with_flag table number on).events ≡ length table.events
same_events table zero on = refl
same_events table (suc n) on = refl

switch : (Want : Type 0) (state : State) (number : ℕ) (on : Bool) → Within state → (flag : Option Bool) → flag_at state.table number ≡ flag
    → (let r = switched state number on flag in ((answer : Answer) × Switches state number on answer r.1 × OnWant Want answer × (r.0 ≡ answer_line answer))
    × Free r.0 × Within r.1)
switch Want state number true within (Some false) is =
    ((Moved state.position, (is, refl, refl), tt, refl), free _ 32 refl refl refl, omega (arith, within, same_events state.table number true))
switch Want state number false within (Some true) is =
    ((Moved state.position, (is, refl, refl), tt, refl), free _ 32 refl refl refl, omega (arith, within, same_events state.table number false))
switch Want state number on within None is = ((Refused NoSuchEvent, (is, refl), tt, refl), free_refusal _ 52 refl refl refl, within)
switch Want state number on within other is = ((Refused AlreadySo, (is, refl), tt, refl), free_refusal _ 53 refl refl refl, within)

-- a pixel that the target has, and one that it hasn't
abbrev has_pixel : State → ℕ → ℕ → Bool
has_pixel state x y = nat_lt x state.table.width && nat_lt y state.table.height

there : (a b c d : ℕ) → (nat_lt a b && nat_lt c d) ≡ true → (a < b) × (c < d)
there a b c d is = grind (arith, nat_tests)

not_there : (a b c d : ℕ) → (nat_lt a b && nat_lt c d) ≡ false → a < b → c < d → ⊥
not_there a b c d is h k = grind (arith, nat_tests)

pixel : (Want : Type 0) (state : State) (x y : ℕ) → Within state → (b : Bool) → has_pixel state x y ≡ b
    → Allowed Want state (Ok (Pixel x y))
    (cond b (pixel_text state.table.version (Ok (colour_at state.table state.position x y)) (Ok (stored_at state.table state.position x y)), state)
    (refusal_reply state NoSuchPixel))
pixel Want state x y within true is =
    let at = there x state.table.width y state.table.height is in
    ((Ok _, Ok _, (at.0, at.1, refl), (at.0, at.1, refl), refl, refl), free _ 120 refl refl refl, within)
pixel Want state x y within false is =
    let none = not_there x state.table.width y state.table.height is in
    ((Err NoSuchPixel, Err NoSuchPixel, (refl, none), (refl, none), refl, refl), free_refusal _ 54 refl refl refl, within)

history : (Want : Type 0) (state : State) (x y : ℕ) → Within state → (b : Bool) → has_pixel state x y ≡ b
    → Allowed Want state (Ok (History x y)) (cond b (entry_list state.table.version (history_at state.table state.position x y), state)
    (refusal_reply state NoSuchPixel))
history Want state x y within true is =
    let at = there x state.table.width y state.table.height is in
    ((Ok _, (at.0, at.1, refl), tt, refl, refl), free _ 115 refl refl refl, within)
history Want state x y within false is =
    ((Err NoSuchPixel, not_there x state.table.width y state.table.height is, tt, refl, refl), free_refusal _ 54 refl refl refl, within)

shows_state : (state : State) → Free (state_text state)
unfolding state_line
shows_state state = free _ 97 refl refl refl

allowed : (Want : Type 0) (state : State) (command : Result Command CommandFault) → Within state → Allowed Want state command (replied state command)
allowed Want state (Err fault) within = bad Want state fault within
allowed Want state (Ok Step) within = step Want state within _ refl
allowed Want state (Ok Back) within = back Want state within _ refl
allowed Want state (Ok (Goto to)) within = jump Want state to within _ refl
allowed Want state (Ok (On number)) within = switch Want state number true within _ refl
allowed Want state (Ok (Off number)) within = switch Want state number false within _ refl
allowed Want state (Ok (Pixel x y)) within = pixel Want state x y within _ refl
allowed Want state (Ok (History x y)) within = history Want state x y within _ refl
allowed Want state (Ok ShowState) within = ((refl, refl), shows_state state, within)
allowed Want state (Ok Show) within = ((inl refl, refl), free _ 109 refl refl refl, within)
allowed Want state (Ok other) within = ((refl, refl), free _ 101 refl refl refl, within)

runs_free : (Want : Type 0) (state : State) (lines : List (List ℕ)) → Within state
    → RunWithoutMemory Want state lines (transcript state lines) (left_by state lines)
runs_free Want state [] within = (refl, refl)
runs_free Want state (line ∷ lines) within =
    let is = allowed Want state (command_of line) within in
    let first = replied state (command_of line) in
    (first.0, first.1, transcript first.1 lines, is.0, is.1, runs_free Want first.1 lines is.2, refl)

pub transcript_runs : TranscriptRuns
transcript_runs real state lines within = runs_free (Evidence real) state lines within

-- ---- a run of which less is known where memory is told

pub asks_nothing : (answer : Answer) → OnWant (Unit {0}) answer
asks_nothing (Moved at) = tt
asks_nothing (Stopped at) = tt
asks_nothing (Refused Memory) = tt
asks_nothing (Refused other) = tt

pub shows_nothing : {T : Type 0} (shown : Result T SessionFault) → OnMemory (Unit {0}) shown
shows_nothing (Ok shown) = tt
shows_nothing (Err Memory) = tt
shows_nothing (Err other) = tt

forgets : (old : State) (command : Result Command CommandFault) (text : List ℕ) (new : State) → Answers Wanted old command text new
    → Answers (Unit {0}) old command text new
forgets old (Ok Step) text new h = (h.0, h.1, asks_nothing h.0, h.3)
forgets old (Ok (Goto to)) text new h = (h.0, h.1, asks_nothing h.0, h.3)
forgets old (Ok (On number)) text new h = (h.0, h.1, asks_nothing h.0, h.3)
forgets old (Ok (Off number)) text new h = (h.0, h.1, asks_nothing h.0, h.3)
forgets old (Ok (History x y)) text new h = (h.0, h.1, shows_nothing h.0, h.3, h.4)
forgets old (Ok Show) text new (inl is, same) = (inl is, same)
forgets old (Ok Show) text new (inr told, same) = (inr (told.0, tt), same)
forgets old other text new h = h

pub runs_forget : RunsForget
runs_forget old [] text new h = h
runs_forget old (line ∷ lines) text new h =
    (h.0, h.1, h.2, forgets old (command_of line) h.0 h.1 h.3, runs_forget h.1 lines h.2 new h.4, h.5)
