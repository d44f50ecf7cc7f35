-- Gathered entries that get their colours are the history's.
use Rattle.std.proofs.Common.{◌≡◌, ◌≢◌, ℕ, zero, suc, ◌+◌, ◌<◌, Bool, true, false, List, [], ◌∷◌, ◌++◌, length, drop, Option, Some, refl, sym, ap, ◌∙◌}
use Rattle.std.proofs.Common.{arith, if◌then◌else◌, map, length-append, append-nil, ◌-◌, ◌≤◌}
use Rattle.std.proofs.Common.{take}
use Rattle.std.proofs.lemmas.List.{map-append, drop_all, take_all}
use Rattle.std.proofs.lemmas.Bool.{true≢false}
use Rattle.fd_cover.specs.declared.shading.Interp.{Interp}
use Rattle.fd_cover.specs.declared.verdict.Verdict.{Verdict}
use Rattle.fd_cover.specs.declared.verdict.Verdict.TheVariants.{Missed, Drawn}
use Rattle.fd_events.specs.declared.event.Event.{Event}
use Rattle.fd_events.specs.declared.event.Event.TheVariants.{Draw}
use Rattle.fd_events.specs.declared.pipeline.Pipeline.{Pipeline}
use Rattle.fd_events.specs.Draw.{Triangle, triangles_of}
use Rattle.fd_events.specs.Image.{Pixel, fresh_pixel, verdict_of, pixel_after_triangle, pixel_after_triangles, pixel_after_event, pixel_at}
use Rattle.fd_events.specs.Image.{stored_at, source_of, depth_of, is_drawn_by, kept_after}
use Rattle.fd_events.specs.Table.{Table, active_event, state_at, event_at, flag_at}
use Rattle.fd_history.specs.declared.entry.Entry.{Entry}
use Rattle.fd_history.specs.History.{entry_of, is_missed, entries_of_triangle, entries_of_triangles, entries_of_event, history_at}
use Rattle.fd_history.specs.Gathered.{Gathering, depth_after_triangle, depth_after_triangles, depth_after_event}
use Rattle.fd_history.specs.Gathered.{gathered_of_triangles, gathered_of, gathered_of_event, past_number}
use Rattle.fd_history.specs.Settled.{gathered_at, overwritten, overwritten_past, drawn_count, first, behind, entry_between, settled}
use Rattle.fd_history.specs.Chain.{Leads, drawn_over}
use Rattle.fd_history.proofs.Chains.{event_leads, history_leads}
use Rattle.fd_history.proofs.Keeping.{drawn_over-append, kept_is_drawn_over}

-- ---- depths, whatever the colours
depth_triangle : (t : Triangle) (interp : Interp) (s : Pipeline) (x y : ℕ) (before : Pixel)
    → (pixel_after_triangle t interp s x y before).1 ≡ depth_after_triangle t s x y before.1
depth_triangle t interp s x y before = grind arith

depth_triangles : (ts : List Triangle) (interp : Interp) (s : Pipeline) (x y : ℕ) (before : Pixel)
    → (pixel_after_triangles ts interp s x y before).1 ≡ depth_after_triangles ts s x y before.1
depth_triangles [] interp s x y before = refl
depth_triangles (t ∷ ts) interp s x y before =
    depth_triangles ts interp s x y (pixel_after_triangle t interp s x y before) ∙ ap (depth_after_triangles ts s x y) (depth_triangle t interp s x y before)

pub depth_event : (event : Option Event) (s : Pipeline) (x y : ℕ) (before : Pixel)
    → (pixel_after_event event s x y before).1 ≡ depth_after_event event s x y before.1
depth_event (Some (Draw draw)) s x y before = depth_triangles (triangles_of draw) draw.interp s x y before
depth_event other s x y before = refl

-- ---- entries without their colours
abbrev blank : Entry → Entry
blank e = entry_between e e.source e.source

blank_one : (v : Verdict) (event number : ℕ) (source before after : Pixel) (last : ℕ) → after.1 ≡ last
    → map blank (if is_missed v then [] else entry_of event (Some number) v source before after ∷ [])
    ≡ (if is_missed v then [] else entry_of event (Some number) v source (source.0, before.1) (source.0, last) ∷ [])
blank_one Missed event number source before after last is = refl
blank_one other event number source before after last is = rw is refl

blank_triangles : (event number : ℕ) (ts : List Triangle) (interp : Interp) (s : Pipeline) (x y : ℕ) (before : Pixel)
    → map blank (entries_of_triangles event number ts interp s x y before) ≡ gathered_of_triangles event number ts interp s x y before.1
blank_triangles event number [] interp s x y before = refl
blank_triangles event number (t ∷ ts) interp s x y before =
    let after = pixel_after_triangle t interp s x y before in
    let depth = depth_triangle t interp s x y before in
    let rest = blank_triangles event (number + 1) ts interp s x y after in
    map-append blank (entries_of_triangle event number t interp s x y before) (entries_of_triangles event (number + 1) ts interp s x y after)
    ∙ ap (λ es. es ++ map blank (entries_of_triangles event (number + 1) ts interp s x y after))
    (blank_one (verdict_of t s x y before.1) event number (source_of t interp x y, depth_of t x y) before after (depth_after_triangle t s x y before.1) depth)
    ∙ rw (rest, depth) refl

blank_event : (number : ℕ) (event : Option Event) (s : Pipeline) (x y : ℕ) (before : Pixel)
    → map blank (entries_of_event number event s x y before) ≡ gathered_of_event number event s x y before.1
blank_event number (Some (Draw draw)) s x y before = blank_triangles number 0 (triangles_of draw) draw.interp s x y before
blank_event number other s x y before = refl

blank_history : (t : Table) (k x y : ℕ) → map blank (history_at t k x y) ≡ gathered_at t k x y
blank_history t zero x y = refl
blank_history t (suc k) x y =
    let more = entries_of_event (suc k) (active_event t (suc k)) (state_at t k) x y (pixel_at t k x y) in
    let events = blank_event (suc k) (active_event t (suc k)) (state_at t k) x y (pixel_at t k x y) in
    cc (map-append blank (history_at t k x y) more, blank_history t k x y, events)

-- what no entry enters is not gathered, and nothing is kept of it
pub gathers_nothing : (number : ℕ) (event : Option Event) (s : Pipeline) (x y : ℕ) (before : Pixel) → entries_of_event number event s x y before ≡ []
    → gathered_of_event number event s x y before.1 ≡ []
gathers_nothing number event s x y before none = sym (blank_event number event s x y before) ∙ ap (map blank) none

-- nor does it change the depth
pub keeps_depth : (number : ℕ) (event : Option Event) (s : Pipeline) (x y : ℕ) (before : Pixel) → entries_of_event number event s x y before ≡ []
    → depth_after_event event s x y before.1 ≡ before.1
keeps_depth number event s x y before none =
    let leads : Leads before (entries_of_event number event s x y before) (pixel_after_event event s x y before) = event_leads number event s x y before in
    let same : before ≡ pixel_after_event event s x y before = rw none at leads in
    sym (depth_event event s x y before) ∙ sym (ap (λ (p : Pixel). p.1) same)

pub keeps_nothing : (t : Table) (k x y : ℕ) → entries_of_event (suc k) (active_event t (suc k)) (state_at t k) x y (pixel_at t k x y) ≡ []
    → kept_after t k x y ≡ []
keeps_nothing t k x y none = kept_is_drawn_over t k x y ∙ ap drawn_over none

-- ---- what a pixel went through
drawn_over-cons : (e : Entry) (es : List Entry) → drawn_over
    (e ∷ es) ≡ (if is_drawn_by e.verdict then (e.before, e.depth_before) ∷ drawn_over es else drawn_over es)
drawn_over-cons e es = grind arith

pub drawn_over-history : (t : Table) (k x y : ℕ) → drawn_over (history_at t k x y) ≡ overwritten t k x y
drawn_over-history t zero x y = refl
drawn_over-history t (suc k) x y =
    let more = entries_of_event (suc k) (active_event t (suc k)) (state_at t k) x y (pixel_at t k x y) in
    cc (drawn_over-append (history_at t k x y) more, drawn_over-history t k x y, kept_is_drawn_over t k x y)

-- behind an entry are those that the entries after it overwrote
behind_one : (b : Bool) (c : Pixel) (cs : List Pixel) (last : Pixel) → behind b ((if b then c ∷ cs else cs) ++ last ∷ []) ≡ cs ++ last ∷ []
behind_one b c cs last = grind arith

first_one : (b : Bool) (c a : Pixel) (cs : List Pixel) (last : Pixel) → (b ≡ false → first (cs ++ last ∷ []) ≡ c)
    → first ((if b then c ∷ cs else cs) ++ last ∷ []) ≡ c
first_one b c a cs last rest = grind arith

not_drawn : (v : Verdict) → is_drawn_by v ≡ false → v ≢ Drawn
not_drawn v undrawn = λ drawn. absurd (true≢false (sym (ap is_drawn_by drawn) ∙ undrawn))

-- the first of them is the pixel's colour
leads_first : (a last : Pixel) (es : List Entry) → Leads a es last → first (drawn_over es ++ last ∷ []) ≡ a
leads_first a last [] leads = sym leads
leads_first a last (e ∷ es) leads =
    ap (λ cs. first (cs ++ last ∷ [])) (drawn_over-cons e es)
    ∙ first_one (is_drawn_by e.verdict) (e.before, e.depth_before) a (drawn_over es) last
    (λ undrawn. leads_first (e.after, e.depth_after) last es leads.2 ∙ leads.1 (not_drawn e.verdict undrawn))
    ∙ leads.0

settles : (a last : Pixel) (es : List Entry) → Leads a es last → settled (map blank es) (drawn_over es ++ last ∷ []) ≡ es
settles a last [] leads = refl
settles a last (e ∷ es) leads =
    let pixels = drawn_over (e ∷ es) ++ last ∷ [] in
    let left : behind (is_drawn_by e.verdict) pixels ≡ drawn_over es ++ last ∷ [] =
    rw (drawn_over-cons e es) (behind_one (is_drawn_by e.verdict) (e.before, e.depth_before) (drawn_over es) last) in
    let before : first pixels ≡ (e.before, e.depth_before) = leads_first a last (e ∷ es) leads ∙ sym leads.0 in
    let after = leads_first (e.after, e.depth_after) last es leads.2 in
    rw (before, left, after, settles (e.after, e.depth_after) last es leads.2) refl

pub history_settles : (t : Table) (k x y : ℕ) → settled (gathered_at t k x y) (overwritten t k x y ++ pixel_at t k x y ∷ []) ≡ history_at t k x y
history_settles t k x y =
    rw (← blank_history t k x y, ← drawn_over-history t k x y)
    (settles fresh_pixel (pixel_at t k x y) (history_at t k x y) (history_leads t k x y))

-- ---- there are enough of them
count_one : (b : Bool) (c : Pixel) (cs : List Pixel) → length (if b then c ∷ cs else cs) ≡ (if b then 1 else 0) + length cs
count_one b c cs = grind arith

drawn_count-blank : (es : List Entry) → drawn_count (map blank es) ≡ length (drawn_over es)
drawn_count-blank [] = refl
drawn_count-blank (e ∷ es) =
    rw (drawn_count-blank es, drawn_over-cons e es) (sym (count_one (is_drawn_by e.verdict) (e.before, e.depth_before) (drawn_over es)))

pub enough : (t : Table) (k x y : ℕ) (last : Pixel) → drawn_count (gathered_at t k x y) < length (overwritten t k x y ++ last ∷ [])
enough t k x y last =
    let same : drawn_count (gathered_at t k x y) ≡ length (overwritten t k x y) =
    ap drawn_count (sym (blank_history t k x y)) ∙ drawn_count-blank (history_at t k x y) ∙ ap length (drawn_over-history t k x y) in
    omega (arith, same, length-append (overwritten t k x y) (last ∷ []))

-- ---- an event that is on
active_is : (t : Table) (number : ℕ) (event : Event) → event_at t number ≡ Some event → flag_at t number ≡ Some true → active_event t number ≡ Some event
active_is t number event found on = rw on found

-- ---- the entries that were lent to be settled
length-settled : (es : List Entry) (pixels : List Pixel) → length (settled es pixels) ≡ length es
length-settled [] pixels = refl
length-settled (e ∷ es) pixels = ap (λ n. suc n) (length-settled es (behind (is_drawn_by e.verdict) pixels))

pub given_back : (n : ℕ) (old new : List Entry) (pixels : List Pixel) → n ≡ length old → new ≡ settled old pixels
    → take n (new ++ drop (length new) old) ≡ settled old pixels
given_back n old new pixels all is =
    let same : length new ≡ length old = ap length is ∙ length-settled old pixels in
    rw (drop_all (length new) old (omega (arith, same)), append-nil new) (take_all n new (omega (arith, same, all)) ∙ is)

-- as many entries of an event were drawn as pixels are kept of it
pub count_kept : (t : Table) (k x y : ℕ) → drawn_count (gathered_of_event (suc k) (active_event t (suc k)) (state_at t k) x y (stored_at t k x y)) ≡ length
    (kept_after t k x y)
count_kept t k x y =
    let entries = entries_of_event (suc k) (active_event t (suc k)) (state_at t k) x y (pixel_at t k x y) in
    rw (← blank_event (suc k) (active_event t (suc k)) (state_at t k) x y (pixel_at t k x y), kept_is_drawn_over t k x y) (drawn_count-blank entries)

pub count_event : (t : Table) (number x y : ℕ) (event : Event) → 1 ≤ number → event_at t number ≡ Some event → flag_at t number ≡ Some true
    → drawn_count (gathered_of number event (state_at t (number - 1)) x y (stored_at t (number - 1) x y)) ≡ length (kept_after t (number - 1) x y)
count_event t number x y event least found on =
    let again : suc (number - 1) ≡ number = omega (arith, least) in
    ap (λ e. drawn_count (gathered_of_event number e (state_at t (number - 1)) x y (stored_at t (number - 1) x y))) (sym (active_is t number event found on))
    ∙ ap (λ n. drawn_count (gathered_of_event n (active_event t n) (state_at t (number - 1)) x y (stored_at t (number - 1) x y))) (sym again)
    ∙ count_kept t (number - 1) x y

-- ---- one event on
abbrev pub gathering_at : Table → ℕ → ℕ → ℕ → Gathering
gathering_at t k x y = record { x = x; y = y; depth = stored_at t k x y; entries = gathered_at t k x y }

pub one_event : (t : Table) (k x y : ℕ) → past_number (suc k) (active_event t (suc k)) (state_at t k) (gathering_at t k x y) ≡ gathering_at t (suc k) x y
one_event t k x y = grind (arith, depth_event)

pub next_event : (t : Table) (k number x y : ℕ) (old new : Gathering) → number ≡ k + 1 → old ≡ gathering_at t k x y
    → new ≡ past_number number (active_event t number) (state_at t (number - 1)) old → new ≡ gathering_at t (k + 1) x y
next_event t k number x y old new at begins is = grind (arith, one_event)

pub next_kept : (t : Table) (k number x y : ℕ) (old new : List Pixel) → number ≡ k + 1 → old ≡ overwritten t k x y
    → new ≡ overwritten_past t (number - 1) x y old → new ≡ overwritten t (k + 1) x y
next_kept t k number x y old new at begins is = grind arith
