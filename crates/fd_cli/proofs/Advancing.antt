-- How a run goes on, byte by byte, and how it ends.
use Rattle.std.proofs.Common.{◌≡◌, ◌≢◌, ℕ, ◌+◌, ◌<◌, ◌≤◌, List, [], ◌∷◌, ◌++◌, ◌⊎◌, length, take, drop, get_or, Option, Bool, true, false, Result, Ok, Err}
use Rattle.std.proofs.Common.{refl}
use Rattle.std.proofs.Common.{sym, ap, ◌∙◌, arith, subst, append_assoc, append-nil, length-append, inl, inr, ltb, take-append-drop}
use Rattle.std.specs.Prelude.{◌==◌, ◌||◌, ◌&&◌}
use Rattle.std.proofs.lemmas.List.{length-take, take-append-le, take_more}
use Rattle.std.proofs.lemmas.Bool.Decides.{nat_tests}
use Rattle.std.proofs.KnownBytes.{Appends-nil, Appends-trans}
use Rattle.arrayvec.specs.ArrayVec.{ArrayVec}
use Rattle.fd_events.specs.Table.{Table}
use Rattle.fd_frame.specs.State.{State, opening}
use Rattle.fd_memory.specs.Wanting.{Wanted}
use Rattle.fd_words.specs.declared.command.Command.TheVariants.{Quit}
use Rattle.fd_words.specs.declared.ending.Ending.{Ending}
use Rattle.fd_words.specs.declared.ending.Ending.TheVariants.{Done, Write, TooMuch}
use Rattle.fd_cli.specs.declared.dialogue.Dialogue.{Dialogue}
use Rattle.fd_words.specs.Line.{Cuts, command_of}
use Rattle.fd_cli.specs.Run.{Answers}
use Rattle.fd_cli.specs.Serving.{Answered, AnswersLines, BreaksOff, Replies, Stops, Serves}
use Rattle.fd_cli.specs.Dialogue.{IsServing, Advances, AfterBytes, Finishes}
use Rattle.fd_cli.proofs.LineLemmas.{all_push, cut_byte, cut_line, run_push, command_front}
use Rattle.fd_device.proofs.Transfers.{puts_all}

-- the start of a run
pub serving_start : (table : Table) (session : State) (line : ArrayVec ℕ) → session ≡ opening table → line.items ≡ []
    → IsServing table [] [] (record { session = session; line = line; lines = 0; bytes = 0; sent = 0 })
serving_start table session line opened none =
    let cut : Cuts [] [] [] = record { whole = refl; each = tt; last = tt } in
    let answered : Answered table [] [] [] [] session =
    record { cut = cut; bytes = omega arith; count = omega arith; none_past = λ e. refl; no_quit = tt; run = (refl, opened) } in
    record { lines = []; rest = []; answered = answered; line = none; line_count = refl; byte_count = refl; sent_count = refl }

-- the lines that were answered so far
abbrev before : {table : Table} {input text : List ℕ} {p : Dialogue} → IsServing table input text p → AnswersLines table input text
before {p} h = record { lines = h.lines; rest = h.rest; state = p.session; answered = h.answered }

-- a byte past a bound
pub advance_past : (old : Dialogue) (held : Option (List ℕ)) (byte : ℕ) → (268435456 ≤ old.bytes) ⊎ (1000000 ≤ old.lines)
    → Advances old old held held (byte ∷ []) (Err TooMuch)
advance_past old held byte past =
    record {
      written = [];
      appended = Appends-nil held;
      after = λ table input text h more.
          let whole = append_assoc input (byte ∷ []) more in
          let bound : (length input ≡ 268435456) ⊎ (length h.lines ≡ 1000000) =
          grind (arith, past, h.byte_count, h.line_count, h.answered.bytes, h.answered.count) in
          rw (append-nil text) (record { input = input; next = byte; more = more; before = before h; whole = whole; bound = bound });
    }

-- a byte that is no line feed
pub advance_byte : (old : Dialogue) (line : ArrayVec ℕ) (held : Option (List ℕ)) (byte : ℕ) → byte ≢ 10 → old.bytes < 268435456 → old.lines < 1000000
    → ((rest : List ℕ) → old.line.items ≡ take 258 rest → line.items ≡ take 258 (rest ++ byte ∷ []))
    → Advances old (record old { line = line; bytes = old.bytes + 1 }) held held (byte ∷ []) (Ok tt)
advance_byte old line held byte other bytes count front =
    record {
      written = [];
      appended = Appends-nil held;
      after = λ table input text h. rw (append-nil text)
          (record {
            lines = h.lines;
            rest = h.rest ++ byte ∷ [];
            answered = record {
              cut = cut_byte input h.lines h.rest byte h.answered.cut other;
              bytes = omega (arith, h.byte_count, length-append input (byte ∷ []));
              count = h.answered.count;
              none_past = λ e. absurd (omega (arith, h.line_count));
              no_quit = h.answered.no_quit;
              run = h.answered.run;
            };
            line = front h.rest h.line;
            line_count = h.line_count;
            byte_count = omega (arith, h.byte_count, length-append input (byte ∷ []));
            sent_count = h.sent_count;
          });
    }

-- the reply to the line that the buffer holds
abbrev pub Replied : Dialogue → Dialogue → Option (List ℕ) → Option (List ℕ) → Bool → Type 0
Replied old new held_old held_new ok = Replies old.session (command_of old.line.items) new.session held_old held_new old.sent new.sent ok

-- the command of the line that the buffer holds the front of
whole_line : {table : Table} {input text : List ℕ} {p : Dialogue} → (h : IsServing table input text p) → command_of p.line.items ≡ command_of h.rest
whole_line h = ap command_of h.line ∙ command_front h.rest

module _ (old new : Dialogue) (held_old held_new : Option (List ℕ)) where
  abbrev breaks_off : (replies : Replied old new held_old held_new false) (table : Table) (input text : List ℕ) → IsServing table input text old
      → BreaksOff table input (text ++ replies.puts.taken) new.sent
  breaks_off replies table input text h =
      record {
        text = text;
        before = before h;
        reply = replies.reply;
        unsent = replies.puts.left;
        last = new.session;
        answers = subst (λ c. Answers Wanted old.session c replies.reply new.session) (whole_line h) replies.answers;
        wrote = append_assoc text replies.puts.taken replies.puts.left ∙ ap (λ xs. text ++ xs) (sym replies.puts.whole);
        count = omega (arith, replies.puts.counted, h.sent_count, length-append text replies.puts.taken);
      }

  -- a reply that breaks off
  pub advance_fault : old.bytes < 268435456 → old.lines < 1000000 → Replied old new held_old held_new false
      → Advances old new held_old held_new (10 ∷ []) (Err (Write new.sent))
  advance_fault bytes count replies =
      record {
        written = replies.puts.taken;
        appended = replies.puts.appended;
        after = λ table input text h more.
            let whole = append_assoc input (10 ∷ []) more in
            let broken = breaks_off replies table input text h in
            record { input = input; more = more; whole = whole; within = omega arith; broken = broken; count = omega arith };
      }

  -- a quit
  pub advance_quit : old.bytes < 268435456 → Replied old new held_old held_new true → command_of old.line.items ≡ Ok Quit
      → Advances old new held_old held_new (10 ∷ []) (Err Done)
  advance_quit bytes replies quit =
      record {
        written = replies.reply;
        appended = (puts_all held_old held_new old.sent new.sent replies.reply replies.puts).0;
        after = λ table input text h more.
            let whole = append_assoc input (10 ∷ []) more in
            let is_quit = sym (whole_line h) ∙ quit in
            let wrote = ap (λ (xs : List ℕ). text ++ xs) (subst (λ c. Answers Wanted old.session c replies.reply new.session) quit replies.answers).0 in
            record { input = input; more = more; text = text; before = before h; whole = whole; within = omega arith; quit = is_quit; wrote = wrote };
      }

  -- any other line
  pub advance_line : old.bytes < 268435456 → old.lines < 1000000 → Replied old new held_old held_new true → command_of old.line.items ≢ Ok Quit
      → new.line.items ≡ [] → new.lines ≡ old.lines + 1 → new.bytes ≡ old.bytes + 1 → Advances old new held_old held_new (10 ∷ []) (Ok tt)
  advance_line bytes count replies other line lines one_more =
      let all = puts_all held_old held_new old.sent new.sent replies.reply replies.puts in
      record {
        written = replies.reply;
        appended = all.0;
        after = λ table input text h.
            let answers = subst (λ c. Answers Wanted old.session c replies.reply new.session) (whole_line h) replies.answers in
            record {
              lines = h.lines ++ h.rest ∷ [];
              rest = [];
              answered = record {
                cut = cut_line input h.lines h.rest h.answered.cut;
                bytes = omega (arith, h.byte_count, length-append input (10 ∷ []));
                count = omega (arith, h.line_count, length-append h.lines (h.rest ∷ []));
                none_past = λ e. refl;
                no_quit = all_push (λ line. command_of line ≢ Ok Quit) h.lines h.rest h.answered.no_quit (λ e. other (whole_line h ∙ e));
                run = run_push Wanted (opening table) h.lines text old.session h.rest replies.reply new.session h.answered.run answers;
              };
              line = line;
              line_count = omega (arith, h.line_count, length-append h.lines (h.rest ∷ []));
              byte_count = omega (arith, h.byte_count, length-append input (10 ∷ []));
              sent_count = omega (arith, all.1, h.sent_count, length-append text replies.reply);
            };
      }

  rest_some : (rest : List ℕ) → old.line.items ≡ take 258 rest → (length old.line.items == 0) ≡ false → 0 < length rest
  rest_some rest is some = grind (arith, nat_tests, length-take 258 rest, ap length is)

  -- the unfinished line was answered
  pub finish_line : (length old.line.items == 0) ≡ false → Replied old new held_old held_new true → Finishes old held_old held_new Done
  finish_line some replies =
      record {
        written = replies.reply;
        appended = (puts_all held_old held_new old.sent new.sent replies.reply replies.puts).0;
        after = λ table input text h.
            let answers = subst (λ c. Answers Wanted old.session c replies.reply new.session) (whole_line h) replies.answers in
            inr (refl, record { text = text; before = before h; last = inr (rest_some h.rest h.line some, replies.reply, new.session, answers, refl) });
      }

  -- the reply to the unfinished line breaks off
  pub finish_fault : (length old.line.items == 0) ≡ false → Replied old new held_old held_new false → Finishes old held_old held_new (Write new.sent)
  finish_fault some replies =
      record {
        written = replies.puts.taken;
        appended = replies.puts.appended;
        after = λ table input text h.
            inr (refl, record { broken = breaks_off replies table input text h; some = rest_some h.rest h.line some });
      }

rest_empty : (line rest : List ℕ) → line ≡ take 258 rest → (length line == 0) ≡ true → rest ≡ []
rest_empty line [] is none = refl
rest_empty line (byte ∷ rest) is none = absurd (grind (arith, nat_tests, length-take 258 (byte ∷ rest), ap length is))

-- no unfinished line at the end of the input
pub finish_none : (p : Dialogue) (held : Option (List ℕ)) → (length p.line.items == 0) ≡ true → Finishes p held held Done
finish_none p held none =
    record {
      written = [];
      appended = Appends-nil held;
      after = λ table input text h.
          inr (refl, record { text = text; before = before h; last = inl (rest_empty p.line.items h.rest h.line none, append-nil text) });
    }

-- no byte
pub advance_none : (p : Dialogue) (held : Option (List ℕ)) → Advances p p held held [] (Ok tt)
advance_none p held = record { written = []; appended = Appends-nil held; after = λ table input text h. rw (append-nil input, append-nil text) h }

shifted : (input front rest more bytes : List ℕ) → front ++ rest ≡ bytes → (input ++ front) ++ (rest ++ more) ≡ (input ++ bytes) ++ more
shifted input front rest more bytes is = rw (← is) (simp append_assoc)

module _ (a b c : Dialogue) (held_a held_b held_c : Option (List ℕ)) where
  -- bytes and then more bytes
  advance_then : (xs ys : List ℕ) (r : Result (Unit {0}) Ending) → Advances a b held_a held_b xs (Ok tt) → Advances b c held_b held_c ys r
      → Advances a c held_a held_c (xs ++ ys) r
  advance_then xs ys r p q =
      record {
        written = p.written ++ q.written;
        appended = Appends-trans held_a held_b held_c p.written q.written p.appended q.appended;
        after = λ table input text h. rw (append_assoc input xs ys, append_assoc text p.written q.written) at
            (q.after table (input ++ xs) (text ++ p.written) (p.after table input text h));
      }

  -- one byte more
  pub advance_more : (bytes : List ℕ) (i : ℕ) → i < length bytes → Advances a b held_a held_b (take i bytes) (Ok tt)
      → Advances b c held_b held_c (get_or bytes i 0 ∷ []) (Ok tt) → Advances a c held_a held_c (take (i + 1) bytes) (Ok tt)
  advance_more bytes i within p q = rw (take_more bytes i 0 within) (advance_then _ _ _ p q)

  -- a byte at which the run stops, whatever stands behind it
  pub advance_stopped : (bytes : List ℕ) (i : ℕ) (ending : Ending) → i < length bytes → Advances a b held_a held_b (take i bytes) (Ok tt)
      → Advances b c held_b held_c (get_or bytes i 0 ∷ []) (Err ending) → Advances a c held_a held_c bytes (Err ending)
  advance_stopped bytes i ending within p q =
      let all = advance_then _ _ _ p q in
      let rest = drop (i + 1) bytes in
      let front = ap (λ (xs : List ℕ). xs ++ rest) (sym (take_more bytes i 0 within)) ∙ take-append-drop (i + 1) bytes in
      record {
        written = all.written;
        appended = all.appended;
        after = λ table input text h more.
            subst (λ taken. Stops table taken (text ++ all.written) ending) (shifted input (take i bytes ++ get_or bytes i 0 ∷ []) rest more bytes front)
            (all.after table input text h (rest ++ more));
      }

-- the bytes of a fill, which stand at the front of the buffer, lead on
pub after_fill : (table : Table) (input text : List ℕ) (old new : Dialogue) (held_old held_new : Option (List ℕ)) (k : ℕ) (filled rest : List ℕ)
    (r : Result (Unit {0}) Ending) → k ≤ length filled → IsServing table input text old
    → (a : Advances old new held_old held_new (take k (filled ++ rest)) r) → AfterBytes table (input ++ take k filled) (text ++ a.written) new r
after_fill table input text old new held_old held_new k filled rest r within h a =
    rw (take-append-le k filled rest within) at (a.after table input text h)

-- what ends a run in the middle of its input ends it
pub serves_stop : (table : Table) (taken written : List ℕ) (ending : Ending) (ended : Bool) → ((more : List ℕ) → Stops table (taken ++ more) written ending)
    → Serves table taken written ending ended
serves_stop table taken written Done ended h = inl (rw (append-nil taken) at (h []))
serves_stop table taken written (Write sent) ended h = inl (rw (append-nil taken) at (h []))
serves_stop table taken written TooMuch ended h = rw (append-nil taken) at (h [])
serves_stop table taken written other ended h = absurd (h [])

-- a fill that had room and gave none
pub end_reached : (old new : Bool) (n size : ℕ) → new ≡ (old || ((n == 0) && ltb 0 size)) → n ≡ 0 → 0 < size → new ≡ true
end_reached old new n size is none room = grind (arith, nat_tests)
