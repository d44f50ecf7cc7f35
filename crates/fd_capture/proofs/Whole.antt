-- A whole text, from what was read of it in one version.
use Rattle.std.proofs.Common.{◌≡◌, ℕ, List, [], ◌∷◌, ◌+◌, suc, Bool, true, false, cond, Option, Some, None, Result, Ok, Err, length, unwrap_or, refl}
use Rattle.std.proofs.Common.{arith}
use Rattle.std.specs.Prelude.{nat_lt, ok_or, IfSome, ◌≤◌, IsUtf8}
use Rattle.std.specs.Str.{is_utf8}
use Rattle.std.proofs.lemmas.Bool.Decides.{nat_tests}
use Rattle.std.proofs.lemmas.Str.{IsUtf8-from_is_utf8, is_utf8-from_IsUtf8}
use Rattle.serde_json.specs.Data.{Data}
use Rattle.serde_json.specs.Read.{read}
use Rattle.fd_events.specs.declared.event.Event.{Event}
use Rattle.fd_events.specs.Limits.{most_events}
use Rattle.fd_events.specs.Table.{IsVersion}
use Rattle.fd_capture.specs.declared.fault.CaptureFault.{CaptureFault}
use Rattle.fd_capture.specs.declared.fault.CaptureFault.TheVariants.{NotJson, NotCapture, TooMany}
use Rattle.fd_capture.specs.declared.head.Head.{Head}
use Rattle.fd_capture.specs.Fault.{◌>>=◌}
use Rattle.fd_capture.specs.Limits.{most_bytes}
use Rattle.fd_capture.specs.Capture.{event_numbered, events_from, table_of_value, json_of, capture_of}
use Rattle.fd_capture.specs.Listed.{GivesListed}
use Rattle.fd_capture.specs.Head.{IsHead, AreOf, table_of_text}
use Rattle.fd_capture.proofs.Tables.{ReadEvents, table-no_object}
use Rattle.fd_capture.proofs.Versions.{IsVersion-read}

-- ---- events that were read in a version are events of it

one_more : (n : ℕ) (e : Event) (others : Result (List Event) CaptureFault) (es : List Event) → ((rest : List Event) → others ≡ Ok rest → length rest ≡ n)
    → (others >>= λ rest. Ok (e ∷ rest)) ≡ Ok es → length es ≡ suc n
one_more n e others es each is = grind arith

after_first : (n : ℕ) (first : Result Event CaptureFault) (others : Result (List Event) CaptureFault) (es : List Event)
    → ((rest : List Event) → others ≡ Ok rest → length rest ≡ n) → (first >>= λ e. others >>= λ rest. Ok (e ∷ rest)) ≡ Ok es → length es ≡ suc n
after_first n first others es each is = grind arith

as_many : (version number : ℕ) (ds : List Data) (es : List Event) → events_from version number ds ≡ Ok es → length es ≡ length ds
unfolding events_from
as_many version number [] es is = let empty : es ≡ [] = cc in rw empty refl
as_many version number (d ∷ ds) es is = after_first (length ds) (event_numbered version number d) (events_from version (number + 1) ds) es
    (λ rest. as_many version (number + 1) ds rest) is

pub are_of_version : (version : ℕ) (read : Option ReadEvents) (listed : Option (List Data)) → (1 ≤ version) × (version ≤ 3) → GivesListed version read listed
    → IfSome read (λ r. AreOf version r)
are_of_version version (Some r) None bounds gives = absurd gives
are_of_version version (Some (Ok events)) (Some ds) bounds gives = few (nat_lt most_events (length ds)) refl gives
  where
    few : (b : Bool) → nat_lt most_events (length ds) ≡ b → cond b (Err TooMany) (events_from version 1 ds) ≡ Ok events.items → IsVersion version events.items
        × (length events.items ≤ most_events)
    few true many is = absurd (cc)
    few false many is =
        let number : length events.items ≡ length ds = as_many version 1 ds events.items is in
        let at_most : length ds ≤ 1000000 = grind (arith, nat_tests) in
        (IsVersion-read version ds events.items bounds is, omega (arith, number, at_most))
are_of_version version read listed bounds gives = tt

-- ---- the version of a text

pub within-or : (found : Option ℕ) (likely : ℕ) → IfSome found (λ v. (1 ≤ v) × (v ≤ 3)) → (1 ≤ likely) × (likely ≤ 3) → (1 ≤ unwrap_or found likely)
    × (unwrap_or found likely ≤ 3)
within-or found likely within bounds = grind arith

-- ---- the bytes

pub text_no_object : (version : ℕ) (head : Option Head) (bytes : List ℕ) (d : Data) → head ≡ None → read bytes ≡ Some d → IsHead version head d
    → table_of_text bytes ≡ Err NotCapture
text_no_object version head bytes d none is no_object = grind (arith, table-no_object)

pub capture-of_text : (bytes : List ℕ) → length bytes ≤ most_bytes → IsUtf8 bytes → capture_of bytes ≡ table_of_text bytes
unfolding capture_of json_of
capture-of_text bytes few text = grind (arith, nat_tests, is_utf8-from_IsUtf8)

pub capture-of_no_text : (bytes : List ℕ) → length bytes ≤ most_bytes → ¬ IsUtf8 bytes → capture_of bytes ≡ Err NotJson
unfolding capture_of json_of
capture-of_no_text bytes few no_text =
    let short : nat_lt most_bytes (length bytes) ≡ false = grind (arith, nat_tests) in
    rw short (by_test (is_utf8 bytes) refl)
  where
    by_test : (b : Bool) → is_utf8 bytes ≡ b → (ok_or (cond b (read bytes) None) NotJson >>= table_of_value) ≡ Err NotJson
    by_test true is = absurd (no_text (IsUtf8-from_is_utf8 bytes is))
    by_test false is = refl
