-- A capture that version 2 accepts is read as version 2 reads it.
use Rattle.std.proofs.Common.{◌≡◌, ℕ, ◌+◌, List, [], ◌∷◌, length, false, cond, Option, Some, None, Result, Ok, Err, ◌⊎◌, inl, inr, refl, ap}
use Rattle.std.proofs.Common.{arith, nat_lt}
use Rattle.std.specs.Prelude.{ok_or, All, IfOk}
use Rattle.serde_json.specs.Data.{Data}
use Rattle.fd_events.specs.declared.event.Event.{Event}
use Rattle.fd_events.specs.Limits.{most_events}
use Rattle.fd_events.specs.Table.{Table, all_on, is_of_picture}
use Rattle.fd_snap.specs.Limits.{most_pixels}
use Rattle.fd_capture.specs.Limits.{most_bytes}
use Rattle.fd_capture.specs.declared.fault.CaptureFault.{CaptureFault}
use Rattle.fd_capture.specs.declared.fault.CaptureFault.TheVariants.{TooLong, NotJson, NotCapture, Version, Size, TooMany}
use Rattle.fd_capture.specs.Fault.{◌>>=◌}
use Rattle.fd_capture.specs.Field.{number_member}
use Rattle.fd_capture.specs.Capture.{events_from, listed_events, json_of, table_of_value, capture_of}
use Rattle.fd_capture.specs.VersionTwo as two
use Rattle.fd_capture.proofs.Versions.{Fits, fits_events}

-- ---- the same events

events_same : (number : ℕ) (ds : List Data) → two.events_from number ds ≡ events_from 2 number ds
unfolding events_from two.events_from
events_same number [] = refl
events_same number (d ∷ ds) = ap (λ others. two.event_numbered number d >>= λ event. others >>= λ es. Ok (event ∷ es)) (events_same (number + 1) ds)

-- ---- the same table

abbrev IsRead : Table → Type 0
IsRead t = (t.version ≡ 2) × All (λ event. is_of_picture event ≡ false) t.events

-- the second reading of a table is the first, which has no picture
abbrev Reads : Result Table CaptureFault → Result Table CaptureFault → Type 0
Reads r s = IfOk r (λ t. (s ≡ Ok t) × IsRead t)

-- a step before it
reads : {A : Type 0} (r : Result A CaptureFault) (f g : A → Result Table CaptureFault) → ((a : A) → Reads (f a) (g a)) → Reads (r >>= f) (r >>= g)
reads (Ok a) f g each = each a
reads (Err fault) f g each = tt

-- the version, which is 2
reads_version : (d : Data) (f g : ℕ → Result Table CaptureFault) → Reads (f 2) (g 2)
    → Reads (ok_or (number_member "version" 2 2 d) Version >>= f) (ok_or (number_member "version" 1 3 d) Version >>= g)
reads_version d f g second = by_found (number_member "version" 2 2 d) (number_member "version" 1 3 d) (is_two d)
  where
    is_two : (d : Data) → (number_member "version" 2 2 d ≡ None) ⊎ ((number_member "version" 2 2 d ≡ Some 2) × (number_member "version" 1 3 d ≡ Some 2))
    is_two d = grind arith

    by_found : (found now : Option ℕ) → (found ≡ None) ⊎ ((found ≡ Some 2) × (now ≡ Some 2))
        → Reads (ok_or found Version >>= f) (ok_or now Version >>= g)
    by_found found now (inl none) = rw none tt
    by_found found now (inr some) = rw (some.0, some.1) second

table_stays : (d : Data) → Reads (two.table_of_value d) (table_of_value d)
unfolding table_of_value two.table_of_value
table_stays d =
    reads (ok_or (listed_events d) NotCapture) _ _ (λ listed.
    reads_version d _ _ (
    reads (ok_or (number_member "width" 1 most_pixels d) Size) _ _ (λ width.
    reads (ok_or (number_member "height" 1 most_pixels d) Size) _ _ (λ height.
    reads (cond (nat_lt most_events (length listed)) (Err TooMany) (Ok listed)) _ _ (λ few.
    found width height (two.events_from 1 few) (events_from 2 1 few) (events_same 1 few) (fits_events 2 1 few))))))
  where
    found : (width height : ℕ) (r s : Result (List Event) CaptureFault) → r ≡ s → IfOk s (λ es. All (Fits 2) es)
        → Reads (r >>= λ es. Ok (all_on 2 width height es)) (s >>= λ es. Ok (all_on 2 width height es))
    found width height r (Err e) same fits = rw same tt
    found width height r (Ok es) same fits = rw same (refl, (refl, λ k d within. (fits k d within).1 (omega arith)))

-- the same table, which has no picture
pub reads_same : (bytes : List ℕ) (t : Table) → two.capture_of bytes ≡ Ok t → (capture_of bytes ≡ Ok t) × (t.version ≡ 2)
    × All (λ event. is_of_picture event ≡ false) t.events
unfolding capture_of two.capture_of
reads_same bytes t is = let found : Reads (Ok t) (capture_of bytes) = rw is at whole in (found.0, found.1.0, found.1.1)
  where
    whole : Reads (two.capture_of bytes) (capture_of bytes)
    whole =
        reads (cond (nat_lt most_bytes (length bytes)) (Err TooLong) (Ok bytes)) _ _ (λ text.
        reads (ok_or (json_of text) NotJson) _ _ (λ value. table_stays value))
