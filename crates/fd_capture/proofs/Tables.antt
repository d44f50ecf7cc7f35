-- The table of what was read is the table of the whole capture.
use Rattle.std.proofs.Common.{arith, ◌≡◌, ℕ, List, Bool, true, false, cond, Option, Some, None, Result, Ok, Err, Vec, Global, length, codes, bytes_eq}
use Rattle.std.proofs.Common.{option_and_then, refl, subst}
use Rattle.std.specs.Prelude.{nat_lt, ok_or, IfSome}
use Rattle.serde_json.specs.Data.{Data, Members, object}
use Rattle.serde_json.specs.Find.{get_member, as_str, as_object}
use Rattle.fd_snap.specs.Limits.{most_pixels}
use Rattle.fd_events.specs.declared.event.Event.{Event}
use Rattle.fd_events.specs.Limits.{most_events}
use Rattle.fd_events.specs.Table.{Table, all_on}
use Rattle.fd_capture.specs.declared.fault.CaptureFault.{CaptureFault}
use Rattle.fd_capture.specs.declared.fault.CaptureFault.TheVariants.{NotCapture, Version, Size, TooMany}
use Rattle.fd_capture.specs.Fault.{Fails, Gives, ◌>>=◌}
use Rattle.fd_capture.specs.Field.{array_of, number_between, number_member, text_member}
use Rattle.fd_capture.specs.Capture.{events_from, table_of_value}
use Rattle.fd_capture.specs.Streamed.{Clips}
use Rattle.fd_capture.specs.Listed.{GivesListed, few_events}
use Rattle.fd_capture.specs.Head.{table_from, listed_from, AreOf, IsReadIn}
use Rattle.fd_capture.proofs.Kept.{member-kept, number_between-clipped}
use Rattle.fd_capture.proofs.Outer.{text-clipped}

abbrev pub ReadEvents : Type 0
ReadEvents = Result (Vec Event Global) CaptureFault

abbrev here : Table → Table
here t = t

-- ---- a step behind what was read

abbrev refused : CaptureFault → Result Table CaptureFault
refused fault = Err fault

behind : (g fault : CaptureFault) (whole : Result (List Event) CaptureFault) (k : List Event → Result Table CaptureFault) → Fails g (refused fault)
    → Fails fault whole → Fails g (whole >>= k)
behind g fault whole k is failed = grind arith

through : (result : Result Table CaptureFault) (read : ReadEvents) (whole : Result (List Event) CaptureFault) (k : List Event → Result Table CaptureFault)
    → Gives (λ (v : Vec Event Global). v.items) read whole
    → Gives here result (read >>= λ (v : Vec Event Global). k v.items) → Gives here result (whole >>= k)
through result read whole k gives is = grind (arith, behind)

-- ---- the members that are kept serve as those that were found

module _ (kept found : Members) (clips : Clips kept found) where
  pub table-kept : (read : Option ReadEvents) → table_from (object kept) read ≡ table_from (object found) read
  table-kept read =
      rw (
        member-kept kept found clips as_str text-clipped (codes "format") refl,
        member-kept kept found clips (number_between 1 3) (number_between-clipped 1 3) (codes "version") refl,
        member-kept kept found clips (number_between 1 most_pixels) (number_between-clipped 1 most_pixels) (codes "width") refl,
        member-kept kept found clips (number_between 1 most_pixels) (number_between-clipped 1 most_pixels) (codes "height") refl,
      ) refl

  pub version-kept : number_member "version" 1 3 (object kept) ≡ number_member "version" 1 3 (object found)
  version-kept = member-kept kept found clips (number_between 1 3) (number_between-clipped 1 3) (codes "version") refl

-- ---- the table

module _ (version : ℕ) (result : Result Table CaptureFault) where
  sized : (ds : List Data) (read : ReadEvents) (found width height : Option ℕ) → IsReadIn version found → Gives (λ (v : Vec Event Global). v.items) read
      (few_events version ds)
      → Gives here result (ok_or found Version >>= λ v. ok_or width Size >>= λ w. ok_or height Size >>= λ h. read >>= λ (es : Vec Event Global). Ok
      (all_on v w h es.items))
      → Gives here result (ok_or found Version >>= λ v. ok_or width Size >>= λ w. ok_or height Size >>= λ h.
      (cond (nat_lt most_events (length ds)) (Err TooMany) (Ok ds)) >>= λ few. events_from v 1 few >>= λ es. Ok (all_on v w h es))
  sized ds read found width height in_version gives is = grind arith

  table_is : (d : Data) (format : Option (List ℕ)) (read : Option ReadEvents) (listed : Option (List Data)) → text_member "format" d ≡ format
      → GivesListed version read listed → IsReadIn version (number_member "version" 1 3 d)
      → Gives here result (ok_or (option_and_then (λ text. cond (bytes_eq text (codes "framedbg")) read None) format) NotCapture >>= λ found. ok_or
      (number_member "version" 1 3 d) Version >>= λ v. ok_or (number_member "width" 1 most_pixels d) Size >>= λ w. ok_or
      (number_member "height" 1 most_pixels d) Size >>= λ h. found >>= λ (es : Vec Event Global). Ok (all_on v w h es.items))
      → Gives here result (ok_or (option_and_then (λ text. cond (bytes_eq text (codes "framedbg")) listed None) format) NotCapture >>= λ ds. ok_or
      (number_member "version" 1 3 d) Version >>= λ v. ok_or (number_member "width" 1 most_pixels d) Size >>= λ w. ok_or
      (number_member "height" 1 most_pixels d) Size >>= λ h. (cond (nat_lt most_events (length ds)) (Err TooMany) (Ok ds)) >>= λ few. events_from v 1 few
      >>= λ es. Ok (all_on v w h es))
  table_is d None read listed same gives in_version is = is
  table_is d (Some text) read listed same gives in_version is = by_text (bytes_eq text (codes "framedbg")) read listed gives is
    where
      by_text : (b : Bool) (read : Option ReadEvents) (listed : Option (List Data)) → GivesListed version read listed
          → Gives here result (ok_or (cond b read None) NotCapture >>= λ found. ok_or (number_member "version" 1 3 d) Version >>= λ v. ok_or
          (number_member "width" 1 most_pixels d) Size >>= λ w. ok_or (number_member "height" 1 most_pixels d) Size >>= λ h. found >>=
          λ (es : Vec Event Global). Ok (all_on v w h es.items))
          → Gives here result (ok_or (cond b listed None) NotCapture >>= λ ds. ok_or (number_member "version" 1 3 d) Version >>= λ v. ok_or
          (number_member "width" 1 most_pixels d) Size >>= λ w. ok_or (number_member "height" 1 most_pixels d) Size >>= λ h.
          (cond (nat_lt most_events (length ds)) (Err TooMany) (Ok ds)) >>= λ few. events_from v 1 few >>= λ es. Ok (all_on v w h es))
      by_text false read listed gives is = is
      by_text true None None gives is = is
      by_text true None (Some ds) gives is = absurd gives
      by_text true (Some r) None gives is = absurd gives
      by_text true (Some r) (Some ds) gives is = sized ds r (number_member "version" 1 3 d) (number_member "width" 1 most_pixels d)
          (number_member "height" 1 most_pixels d) in_version gives is

  -- what the kept members and the events give is what the capture gives
  pub table-read : (kept found : Members) (read : Option ReadEvents) → Clips kept found
      → GivesListed version read (option_and_then array_of (get_member (codes "events") found))
      → IsReadIn version (number_member "version" 1 3 (object found))
      → Gives here result (table_from (object kept) read) → Gives here result (table_of_value (object found))
  unfolding table_of_value
  table-read kept found read clips gives in_version is =
      table_is (object found) (text_member "format" (object found)) read (option_and_then array_of (get_member (codes "events") found)) refl gives in_version
      (subst (Gives here result) (table-kept kept found clips read) is)

-- a value that is no object is no capture
pub table-no_object : (d : Data) → as_object d ≡ None → table_of_value d ≡ Err NotCapture
unfolding table_of_value
table-no_object d is = grind arith

read_then : (d : Data) (read : Option ReadEvents) (r : ReadEvents) → listed_from d read ≡ Some r → read ≡ Some r
read_then d read r is = grind arith

-- the events of a capture that has them and a version
pub are_of : (d : Data) (read : Option ReadEvents) (r : ReadEvents) (found : Option ℕ) (v : ℕ) (events : Vec Event Global)
    → IfSome read (λ q. IfSome found (λ w. AreOf w q)) → listed_from d read ≡ Some r → found ≡ Some v → r ≡ Ok events
    → AreOf v (Ok events)
are_of d read r found v events are listed version is = grind (arith, read_then)

pub some_from_ok_or : {X E : Type 0} (o : Option X) (e : E) (x : X) → Ok x ≡ ok_or o e → o ≡ Some x
some_from_ok_or o e x h = grind arith
