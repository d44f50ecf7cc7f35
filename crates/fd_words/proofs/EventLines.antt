-- The lines of a list of events, one after another.
use Rattle.std.proofs.Common.{◌≡◌, ℕ, zero, suc, ◌+◌, ◌<◌, ◌≤◌, length, get_or, Bool, List, [], ◌∷◌, ◌++◌, drop, Some, unwrap_or, slice_get, refl, sym, ap}
use Rattle.std.proofs.Common.{◌∙◌, arith}
use Rattle.fd_events.specs.declared.event.Event.{Event}
use Rattle.fd_events.specs.Table.{at_number}
use Rattle.fd_events.proofs.Images.{at_number-next}
use Rattle.std.specs.List.{flat_map}
use Rattle.std.proofs.Math.Seq.{drop-cons}
use Rattle.fd_history.specs.declared.entry.Entry.{Entry}
use Rattle.fd_words.specs.Text.{event_line, event_lines, entry_line}

lines_at : (n : ℕ) (events : List Event) (flags : List Bool) (i : ℕ) (event : Event) (on : Bool) → slice_get events i ≡ Some event → slice_get flags i ≡ Some on
    → event_lines n (drop i events) (drop i flags) ≡ event_line n event on ++ event_lines (n + 1) (drop (i + 1) events) (drop (i + 1) flags)
lines_at n [] flags i event on there set_so = absurd (cc)
lines_at n (e ∷ events) [] i event on there set_so = absurd (cc)
lines_at n (e ∷ events) (f ∷ flags) zero event on there set_so =
    ap (λ o. event_line n (unwrap_or o e) f ++ event_lines (n + 1) events flags) there
    ∙ ap (λ o. event_line n event (unwrap_or o f) ++ event_lines (n + 1) events flags) set_so
lines_at n (e ∷ events) (f ∷ flags) (suc i) event on there set_so =
    let next : suc i + 1 ≡ suc (i + 1) = omega arith in
    rw next (lines_at n events flags i event on there set_so)

-- the lines to come begin with the next event's
pub lines_next : (events : List Event) (flags : List Bool) (i : ℕ) (event : Event) (on : Bool) → at_number events (i + 1) ≡ Some event
    → at_number flags (i + 1) ≡ Some on
    → event_lines (i + 1) (drop i events) (drop i flags) ≡ event_line (i + 1) event on ++ event_lines (i + 1 + 1) (drop (i + 1) events) (drop (i + 1) flags)
lines_next events flags i event on there set_so =
    lines_at (i + 1) events flags i event on (sym (at_number-next events i) ∙ there) (sym (at_number-next flags i) ∙ set_so)

drop_past : {X : Type 0} (xs : List X) (i : ℕ) → length xs ≤ i → drop i xs ≡ []
drop_past [] zero past = refl
drop_past [] (suc i) past = refl
drop_past (x ∷ xs) zero past = absurd (omega arith)
drop_past (x ∷ xs) (suc i) past = drop_past xs i (omega arith)

-- no lines come after the last event's
pub lines_end : (n : ℕ) (events : List Event) (flags : List Bool) (i : ℕ) → length events ≤ i → event_lines n (drop i events) (drop i flags) ≡ []
lines_end n events flags i past = ap (λ xs. event_lines n xs (drop i flags)) (drop_past events i past)

-- no lines come after the last entry's
pub entries_end : (version : ℕ) (entries : List Entry) (i : ℕ) → length entries ≤ i → flat_map (entry_line version) (drop i entries) ≡ []
entries_end version entries i past = ap (flat_map (entry_line version)) (drop_past entries i past)

-- the lines to come begin with the next entry's
pub entries_next : (version : ℕ) (entries : List Entry) (i : ℕ) (entry : Entry) → i < length entries
    → flat_map (entry_line version) (drop i entries) ≡ entry_line version (get_or entries i entry) ++ flat_map (entry_line version) (drop (i + 1) entries)
entries_next version entries i entry within =
    let next : suc i ≡ i + 1 = omega arith in
    ap (flat_map (entry_line version)) (drop-cons entries i entry within)
    ∙ ap (λ k. entry_line version (get_or entries i entry) ++ flat_map (entry_line version) (drop k entries)) next
