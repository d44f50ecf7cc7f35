-- A run wrote the output, as far as it came.
use Rattle.std.proofs.Common.{◌≡◌, ◌≢◌, ℕ, ◌<◌, List, [], ◌∷◌, ◌++◌, length, Bool, true, false, cond, eqb, Result, Ok, refl, sym, ap, ◌∙◌, arith, subst}
use Rattle.std.proofs.Common.{codes, inl, inr, ◌⊎◌, append_assoc, length-append, append-nil}
use Rattle.std.specs.List.{flat_map, All, AllByRecursion}
use Rattle.std.proofs.lemmas.List.Elements.{All-from_recursion}
use Rattle.std.proofs.lemmas.List.Splits.{slice_split_none, slice_split_at, length-slice_split}
use Rattle.std.proofs.lemmas.Bool.{ne_eqb}
use Rattle.fd_events.specs.Table.{Table}
use Rattle.fd_frame.specs.State.{State, opening}
use Rattle.fd_memory.specs.Wanting.{Wanted}
use Rattle.fd_words.specs.declared.command.Command.{Command}
use Rattle.fd_words.specs.declared.command.Command.TheVariants.{Quit}
use Rattle.fd_words.specs.declared.command.CommandFault.{CommandFault}
use Rattle.fd_words.specs.declared.ending.Ending.TheVariants.{Done, Capture, Read, Write, TooMuch, Memory}
use Rattle.fd_words.specs.Line.{HasNoLineFeed, with_line_feed, Cuts, command_of}
use Rattle.fd_cli.specs.Run.{Answers}
use Rattle.fd_cli.specs.Serving.{AnswersLines, StopsAtQuit, AnswersAll, PassesBound, BreaksOff, BreaksOffWithin, BreaksOffLast}
use Rattle.fd_cli.specs.Transcript.{replied, left_by, transcript, WritesUpToMemory}
use Rattle.fd_cli.specs.Output.{pieces_of, is_quit, answered_of, answered, but_last, ended_lines, WritesOutput, WritesFront, WritesLines, WritesWithin}
use Rattle.fd_cli.specs.Output.{ServeWritesOutput}
use Rattle.fd_cli.proofs.LineLemmas.{run_push}
use Rattle.fd_cli.proofs.Transcripts.{writes_transcript}

-- ---- the pieces of an input

tests : (line : List ℕ) → HasNoLineFeed line → AllByRecursion (λ b. eqb b 10 ≡ false) line
tests [] h = tt
tests (b ∷ line) h = (ne_eqb b 10 h.0, tests line h.1)

none : (line : List ℕ) → HasNoLineFeed line → All (λ b. eqb b 10 ≡ false) line
none line h = All-from_recursion (λ b. eqb b 10 ≡ false) line (tests line h)

pieces : (lines : List (List ℕ)) (tail : List ℕ) → AllByRecursion HasNoLineFeed lines → pieces_of (flat_map with_line_feed lines ++ tail)
    ≡ lines ++ pieces_of tail
pieces [] tail each = refl
pieces (line ∷ lines) tail each =
    let more = flat_map with_line_feed lines ++ tail in
    ap pieces_of (append_assoc (line ++ 10 ∷ []) (flat_map with_line_feed lines) tail ∙ append_assoc line (10 ∷ []) more)
    ∙ slice_split_at (λ b. eqb b 10) line 10 more (none line each.0) refl
    ∙ ap (λ ls. line ∷ ls) (pieces lines tail each.1)

pub pieces_all : (taken : List ℕ) (lines : List (List ℕ)) (rest : List ℕ) → Cuts taken lines rest → pieces_of taken ≡ lines ++ rest ∷ []
pieces_all taken lines rest cut =
    ap pieces_of cut.whole ∙ pieces lines rest cut.each ∙ ap (λ (ls : List (List ℕ)). lines ++ ls) (slice_split_none (λ b. eqb b 10) rest (none rest cut.last))

-- a line feed behind the rest ends it
pieces_on : (taken input more : List ℕ) (lines : List (List ℕ)) (rest : List ℕ) → taken ≡ input ++ 10 ∷ more → Cuts input lines rest
    → pieces_of taken ≡ lines ++ rest ∷ pieces_of more
pieces_on taken input more lines rest whole cut =
    ap pieces_of (whole ∙ ap (λ (xs : List ℕ). xs ++ 10 ∷ more) cut.whole ∙ append_assoc (flat_map with_line_feed lines) rest (10 ∷ more))
    ∙ pieces lines (rest ++ 10 ∷ more) cut.each ∙ ap (λ (ls : List (List ℕ)). lines ++ ls)
    (slice_split_at (λ b. eqb b 10) rest 10 more (none rest cut.last) refl)

some_pieces : (input : List ℕ) → 0 < length (pieces_of input)
some_pieces input = omega (arith, length-slice_split (λ b. eqb b 10) input)

-- ---- those that a line feed ends

all_but_last : (lines : List (List ℕ)) (rest : List ℕ) → but_last (lines ++ rest ∷ []) ≡ lines
all_but_last [] rest = refl
all_but_last (line ∷ []) rest = refl
all_but_last (line ∷ next ∷ lines) rest = ap (λ ls. line ∷ ls) (all_but_last (next ∷ lines) rest)

ended_are : (taken : List ℕ) (lines : List (List ℕ)) (rest : List ℕ) → Cuts taken lines rest → ended_lines taken ≡ lines
ended_are taken lines rest cut = ap but_last (pieces_all taken lines rest cut) ∙ all_but_last lines rest

-- ---- those that are answered

not_quit : (c : Result Command CommandFault) → c ≢ Ok Quit → is_quit c ≡ false
not_quit (Ok Quit) never = absurd (never refl)
not_quit other never = refl

-- a line that others follow
first : (line : List ℕ) (others : List (List ℕ)) (b : Bool) → 0 < length others → is_quit (command_of line) ≡ b
    → answered_of (line ∷ others) ≡ cond b (line ∷ []) (line ∷ answered_of others)
first line [] b some is = absurd (omega arith)
first line (next ∷ lines) b some is = ap (λ (t : Bool). cond t (line ∷ []) (line ∷ answered_of (next ∷ lines))) is

steps : (lines others : List (List ℕ)) → 0 < length others → AllByRecursion (λ line. command_of line ≢ Ok Quit) lines
    → answered_of (lines ++ others) ≡ lines ++ answered_of others
steps [] others some never = refl
steps (line ∷ lines) others some never =
    first line (lines ++ others) false (omega (arith, length-append lines others)) (not_quit (command_of line) never.0)
    ∙ ap (λ ls. line ∷ ls) (steps lines others some never.1)

last_some : (rest : List ℕ) → 0 < length rest → answered_of (rest ∷ []) ≡ rest ∷ []
last_some [] some = absurd (omega arith)
last_some (b ∷ rest) some = refl

-- a line is answered, and perhaps others behind it
goes_on : (line : List ℕ) (others : List (List ℕ)) → 0 < length others → (b : Bool) → is_quit (command_of line) ≡ b → (more : List (List ℕ))
    × (answered_of (line ∷ others) ≡ line ∷ more)
goes_on line others some true is = ([], first line others true some is)
goes_on line others some false is = (answered_of others, first line others false some is)

-- ---- transcripts of more lines

transcript_on : (state : State) (lines others : List (List ℕ)) → transcript state (lines ++ others)
    ≡ transcript state lines ++ transcript (left_by state lines) others
transcript_on state [] others = refl
transcript_on state (line ∷ lines) others =
    let first = replied state (command_of line) in
    ap (λ (xs : List ℕ). first.0 ++ xs) (transcript_on first.1 lines others)
    ∙ sym (append_assoc first.0 (transcript first.1 lines) (transcript (left_by first.1 lines) others))

-- what was written of some lines begins what is written of more
on_and_on : (state : State) (lines others : List (List ℕ)) (text : List ℕ) → WritesUpToMemory Wanted state lines text → (more : List ℕ)
    × WritesUpToMemory Wanted state (lines ++ others) (text ++ more)
on_and_on state lines others text (inl is) =
    let same = ap (λ (xs : List ℕ). xs ++ transcript (left_by state lines) others) is ∙ sym (transcript_on state lines others) in
    (transcript (left_by state lines) others, inl same)
on_and_on state lines others text (inr b) =
    let cut = ap (λ (ls : List (List ℕ)). ls ++ others) b.cut ∙ append_assoc b.earlier (b.line ∷ (b.later ++ b.unread)) others
    ∙ ap (λ (ls : List (List ℕ)). b.earlier ++ b.line ∷ ls) (append_assoc b.later b.unread others) in
    let wrote = append-nil text ∙ b.wrote in
    let unread = b.unread ++ others in (
      [],
      inr (record {
        earlier = b.earlier;
        line = b.line;
        later = b.later;
        unread = unread;
        reply = b.reply;
        more = b.more;
        left = b.left;
        end = b.end;
        cut = cut;
        wanted = b.wanted;
        answers = b.answers;
        names = b.names;
        goes_on = b.goes_on;
        wrote = wrote;
      }),
    )

-- ---- the ways in which a run ends

module _ (table : Table) (taken : List ℕ) where
  -- of the input that goes on behind a line feed
  answered_on : (input more text : List ℕ) (b : AnswersLines table input text) → taken ≡ input ++ 10 ∷ more
      → answered taken ≡ b.lines ++ answered_of (b.rest ∷ pieces_of more)
  answered_on input more text b whole = ap answered_of (pieces_on taken input more b.lines b.rest whole b.answered.cut)
      ∙ steps b.lines (b.rest ∷ pieces_of more) (omega arith) b.answered.no_quit

  -- of one that ends with the last line
  answered_end : (text : List ℕ) (b : AnswersLines table taken text) → answered taken ≡ b.lines ++ answered_of (b.rest ∷ [])
  answered_end text b = ap answered_of (pieces_all taken b.lines b.rest b.answered.cut) ∙ steps b.lines (b.rest ∷ []) (omega arith) b.answered.no_quit

  answered_last : (text : List ℕ) (b : AnswersLines table taken text) → 0 < length b.rest → answered taken ≡ b.lines ++ b.rest ∷ []
  answered_last text b some = answered_end text b ∙ ap (λ (ls : List (List ℕ)). b.lines ++ ls) (last_some b.rest some)

  -- so many lines were answered, with the rest behind them
  with_rest : (input text reply : List ℕ) (last : State) (b : AnswersLines table input text) → Answers Wanted b.state (command_of b.rest) reply last
      → WritesUpToMemory Wanted (opening table) (b.lines ++ b.rest ∷ []) (text ++ reply)
  with_rest input text reply last b answers = writes_transcript true (opening table) (b.lines ++ b.rest ∷ []) (text ++ reply) last
      (run_push Wanted (opening table) b.lines text b.state b.rest reply last b.answered.run answers)

  lines_of : (written : List ℕ) (b : AnswersLines table taken written) → WritesLines table taken written
  lines_of written b = rw (ended_are taken b.lines b.rest b.answered.cut) (writes_transcript true (opening table) b.lines written b.state b.answered.run)

  at_a_quit : (written : List ℕ) → StopsAtQuit table taken written → WritesOutput table taken written
  at_a_quit written s =
      let b = s.before in
      let is : answered taken ≡ b.lines ++ b.rest ∷ [] = answered_on s.input s.more s.text b s.whole
      ∙ ap (λ (ls : List (List ℕ)). b.lines ++ ls) (first b.rest (pieces_of s.more) true (some_pieces s.more) (ap is_quit s.quit)) in
      let bye : Answers Wanted b.state (command_of b.rest) (codes "bye\n") b.state =
      subst (λ (c : Result Command CommandFault). Answers Wanted b.state c (codes "bye\n") b.state) (sym s.quit) (refl, refl) in
      rw (is, s.wrote) (with_rest s.input s.text (codes "bye\n") b.state b bye)

  at_the_end : (written : List ℕ) → AnswersAll table taken written → WritesOutput table taken written
  at_the_end written a =
      let b = a.before in
      elim a.last [
        | inl h ↦
            let is : answered taken ≡ b.lines =
            answered_end a.text b ∙ ap (λ (r : List ℕ). b.lines ++ answered_of (r ∷ [])) h.0 ∙ append-nil b.lines in
            rw (is, h.1) (writes_transcript true (opening table) b.lines a.text b.state b.answered.run)
        | inr h ↦ rw (answered_last a.text b h.0, h.4) (with_rest taken a.text h.1 h.2 b h.3)
      ]

  -- the writer took a front of the replies to these lines and to the rest, behind which others may be answered
  broken : (input written : List ℕ) (sent : ℕ) (others : List (List ℕ)) → (b : BreaksOff table input written sent)
      → answered taken ≡ (b.before.lines ++ b.before.rest ∷ []) ++ others → WritesFront table taken written sent
  broken input written sent others b is =
      let on = on_and_on (opening table) (b.before.lines ++ b.before.rest ∷ []) others (b.text ++ b.reply)
      (with_rest input b.text b.reply b.last b.before b.answers) in
      let whole : written ++ (b.unsent ++ on.0) ≡ (b.text ++ b.reply) ++ on.0 =
      sym (append_assoc written b.unsent on.0) ∙ ap (λ (xs : List ℕ). xs ++ on.0) b.wrote in
      record { unsent = b.unsent ++ on.0; count = b.count; whole = rw (is, whole) on.1 }

  broken_within : (written : List ℕ) (sent : ℕ) → BreaksOffWithin table taken written sent → WritesFront table taken written sent
  broken_within written sent w =
      let b = w.broken.before in
      let on = goes_on b.rest (pieces_of w.more) (some_pieces w.more) _ refl in
      broken w.input written sent on.0 w.broken (answered_on w.input w.more w.broken.text b w.whole
      ∙ ap (λ (ls : List (List ℕ)). b.lines ++ ls) on.1 ∙ sym (append_assoc b.lines (b.rest ∷ []) on.0))

  broken_last : (written : List ℕ) (sent : ℕ) → BreaksOffLast table taken written sent → WritesFront table taken written sent
  broken_last written sent w =
      let b = w.broken.before in
      broken taken written sent [] w.broken (answered_last w.broken.text b w.some ∙ sym (append-nil (b.lines ++ b.rest ∷ [])))

within : (table : Table) (taken written : List ℕ) → PassesBound table taken written → WritesWithin table taken written
within table taken written p =
    let b = p.before in
    let bound : (length p.input ≡ 268435456) ⊎ (length (ended_lines p.input) ≡ 1000000) =
    rw (ended_are p.input b.lines b.rest b.answered.cut) p.bound in
    record { input = p.input; next = p.next; more = p.more; whole = p.whole; bound = bound; wrote = lines_of table p.input written b }

pub serve_writes_output : ServeWritesOutput
serve_writes_output capture taken written Done ended s =
    (s.0, s.1, elim s.2 [ inl q ↦ at_a_quit s.0 taken written q | inr a ↦ at_the_end s.0 taken written a.1 ])
serve_writes_output capture taken written (Write sent) ended s =
    (s.0, s.1, elim s.2 [ inl w ↦ broken_within s.0 taken written sent w | inr w ↦ broken_last s.0 taken written sent w.1 ])
serve_writes_output capture taken written Read ended s = (s.0, s.1, lines_of s.0 taken written s.2)
serve_writes_output capture taken written TooMuch ended s = (s.0, s.1, within s.0 taken written s.2)
serve_writes_output capture taken written (Capture fault) ended s = (s.0.0, s.1.0, s.1.1)
serve_writes_output capture taken written Memory ended s = s
serve_writes_output capture taken written other ended s = absurd s.2
