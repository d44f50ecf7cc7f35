-- Events that are read one after another.
use Rattle.std.proofs.Common.{◌≡◌, ℕ, suc, ◌+◌, List, [], ◌∷◌, ◌++◌, length, Result, Ok, Err, Vec, Global, refl, sym, ap, ◌∙◌, arith}
use Rattle.serde_json.specs.Data.{Data}
use Rattle.fd_events.specs.declared.event.Event.{Event}
use Rattle.fd_capture.specs.declared.fault.CaptureFault.{CaptureFault}
use Rattle.fd_capture.specs.Fault.{◌>>=◌, Gives}
use Rattle.fd_capture.specs.Capture.{event_numbered, events_from}
use Rattle.std.specs.Prelude.{nat_lt, min, ◌^◌, ◌-◌, ◌<◌, ◌≤◌, Bool, true, false}
use Rattle.std.specs.Bool.{MatchBool}
use Rattle.std.proofs.lemmas.Bool.Decides.{nat_tests}
use Rattle.std.proofs.lemmas.List.{length_push}
use Rattle.fd_capture.specs.Listed.{GivesMore, GivesNext, few_events}
use Rattle.fd_capture.specs.declared.fault.CaptureFault.TheVariants.{TooMany}

-- one more, after those that were read
abbrev pub and_one : Result (List Event) CaptureFault → Result Event CaptureFault → Result (List Event) CaptureFault
and_one so_far read = so_far >>= (λ (es : List Event). read >>= (λ (e : Event). Ok (es ++ e ∷ [])))

before : (event : Event) (so_far : Result (List Event) CaptureFault) (read : Result Event CaptureFault)
    → (and_one so_far read >>= (λ (es : List Event). Ok (event ∷ es))) ≡ and_one (so_far >>= (λ (es : List Event). Ok (event ∷ es))) read
before event so_far read = grind arith

alone : (read : Result Event CaptureFault) → (read >>= (λ (e : Event). Ok [] >>= (λ (es : List Event). Ok (e ∷ es)))) ≡ and_one (Ok []) read
alone read = grind arith

first : (read : Result Event CaptureFault) (whole so_far : Result (List Event) CaptureFault) (last : Result Event CaptureFault) → whole ≡ and_one so_far last
    → (read >>= (λ (e : Event). whole >>= (λ (es : List Event). Ok (e ∷ es))))
    ≡ and_one (read >>= (λ (e : Event). so_far >>= (λ (es : List Event). Ok (e ∷ es)))) last
first read whole so_far last is = grind arith

pub events_from-push : (version number : ℕ) (front : List Data) (d : Data) → events_from version number (front ++ d ∷ [])
    ≡ and_one (events_from version number front) (event_numbered version (number + length front) d)
unfolding events_from
events_from-push version number [] d = alone (event_numbered version number d) ∙ ap (λ (n : ℕ). and_one (Ok []) (event_numbered version n d)) (omega arith)
events_from-push version number (e ∷ front) d =
    let same : number + 1 + length front ≡ number + suc (length front) = omega arith in
    first (event_numbered version number e) (events_from version (number + 1) (front ++ d ∷ [])) (events_from version (number + 1) front)
    (event_numbered version (number + suc (length front)) d)
    (events_from-push version (number + 1) front d ∙ ap (λ (n : ℕ). and_one (events_from version (number + 1) front) (event_numbered version n d)) same)

-- what the calls so far gave, and one call more
pub gives_more : (events more : Result (Vec Event Global) CaptureFault) (so_far : Result (List Event) CaptureFault) (read : Result Event CaptureFault)
    → Gives (λ (v : Vec Event Global). v.items) events so_far → GivesMore events more read
    → Gives (λ (v : Vec Event Global). v.items) more (and_one so_far read)
gives_more events more so_far read so is = grind arith

-- ---- up to the limit

few_are : (version : ℕ) (ds : List Data) → length ds ≤ 1000000 → few_events version ds ≡ events_from version 1 ds
few_are version ds few = grind arith

many_are : (version : ℕ) (ds : List Data) → 1000000 < length ds → few_events version ds ≡ Err TooMany
many_are version ds many = grind arith

-- one item more of a list, whose number stays at the greatest of 32 bits
pub next_of : (version number : ℕ) (front : List Data) (d : Data) (events more : Result (Vec Event Global) CaptureFault)
    → number ≡ min (length front + 1) (2 ^ 32 - 1)
    → Gives (λ (v : Vec Event Global). v.items) events (few_events version front) → GivesNext number events more (event_numbered version number d)
    → Gives (λ (v : Vec Event Global). v.items) more (few_events version (front ++ d ∷ []))
next_of version number front d events more is so next = by_number (nat_lt 1000000 number) refl next
  where
    by_number : (b : Bool) → nat_lt 1000000 number ≡ b → MatchBool b (more ≡ Err TooMany) (GivesMore events more (event_numbered version number d))
        → Gives (λ (v : Vec Event Global). v.items) more (few_events version (front ++ d ∷ []))
    by_number true test none =
        let many : 1000000 < length (front ++ d ∷ []) = grind (arith, nat_tests, length_push front d) in
        rw none (many_are version (front ++ d ∷ []) many)
    by_number false test one =
        let here : number ≡ 1 + length front = grind (arith, nat_tests) in
        let few : length front ≤ 1000000 = grind (arith, nat_tests) in
        let still : length (front ++ d ∷ []) ≤ 1000000 = grind (arith, nat_tests, length_push front d) in
        let same : and_one (few_events version front) (event_numbered version number d) ≡ few_events version (front ++ d ∷ []) =
        ap (λ (r : Result (List Event) CaptureFault). and_one r (event_numbered version number d)) (few_are version front few)
        ∙ ap (λ (n : ℕ). and_one (events_from version 1 front) (event_numbered version n d)) here
        ∙ sym (few_are version (front ++ d ∷ []) still ∙ events_from-push version 1 front d) in
        rw (← same) (gives_more events more (few_events version front) (event_numbered version number d) so one)

abbrev read_so_far : List Event → Result (List Event) CaptureFault
read_so_far es = Ok es

-- before the first item
pub none_yet : (version : ℕ) (es : List Event) → es ≡ [] → events_from version 1 [] ≡ Ok es
unfolding events_from
none_yet version es is = sym (ap read_so_far is)
