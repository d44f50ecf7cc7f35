-- A capture that version 1 accepts is read as version 1 reads it.
use Rattle.std.proofs.Common.{◌≡◌, ℕ, ◌+◌, List, [], ◌∷◌, length, Bool, true, false, cond, Option, Some, None, Result, Ok, Err, refl}
use Rattle.std.proofs.Common.{ap, arith, nat_lt}
use Rattle.std.specs.Prelude.{codes, ok_or, All, IfSome, IfOk}
use Rattle.std.specs.Str.{bytes_eq}
use Rattle.std.specs.Result.{result_ok}
use Rattle.std.proofs.lemmas.Bool.Decides.{nat_tests}
use Rattle.std.proofs.lemmas.List.Elements.{All-nil, All-cons}
use Prim.Native.String.{String}
use Rattle.serde_json.specs.Data.{Data}
use Rattle.fd_blend.specs.Equation.{has_colour_factor}
use Rattle.fd_cover.specs.declared.shading.Interp.{Interp}
use Rattle.fd_events.specs.declared.draw.Vertex.{Vertex}
use Rattle.fd_events.specs.declared.event.Event.{Event}
use Rattle.fd_events.specs.Label.{labelled}
use Rattle.fd_events.specs.Table.{Table, all_on}
use Rattle.fd_events.specs.VersionOne.{IsFlat}
use Rattle.fd_capture.specs.declared.fault.CaptureFault.{CaptureFault}
use Rattle.fd_capture.specs.declared.fault.CaptureFault.TheVariants.{TooLong, NotJson, NotCapture, Version, Size, TooMany}
use Rattle.fd_capture.specs.declared.fault.EventFault.{EventFault}
use Rattle.fd_capture.specs.declared.fault.EventFault.TheVariants.{BadField, UnknownEvent}
use Rattle.fd_events.specs.declared.event.Event.TheVariants.{Draw}
use Rattle.fd_capture.specs.Fault.{map_fault, numbered, ◌>>=◌}
use Rattle.fd_capture.specs.Field.{text_member, number_member, colour_member, flag_member, rect_member, part_member}
use Rattle.fd_capture.specs.Field.{vertex_of, vertices_member, array_member, indices_member, all_of}
use Rattle.fd_snap.specs.Limits.{most_pixels}
use Rattle.fd_events.specs.Limits.{most_events}
use Rattle.fd_capture.specs.Limits.{most_bytes}
use Rattle.fd_capture.specs.Kind.{draw_event, clear_event, raster_event, scissor_event, blend_event, factor_of, marker_event}
use Rattle.fd_capture.specs.Spelling.{spelled_cull, spelled_interp}
use Rattle.fd_capture.specs.Capture.{event_of, event_of_kind, event_numbered, events_from, listed_events, json_of, table_of_value, capture_of}
use Rattle.fd_capture.specs.VersionOne as one
use Rattle.fd_capture.specs.VersionOne.{◌>>?◌}

-- ---- what was accepted still is

-- the second optional value is the first, if there is a first
abbrev Stays : {A : Type 0} → Option A → Option A → Type 0
Stays o p = IfSome o (λ a. p ≡ Some a)

stays : {A : Type 0} (o : Option A) → Stays o o
stays o = grind arith

next : {A B : Type 0} (o p : Option A) (f g : A → Option B) → Stays o p → ((a : A) → Stays (f a) (g a)) → Stays (o >>? f) (p >>? g)
next o p f g first each = grind arith

-- the same of results
abbrev StaysOk : {A E : Type 0} → Result A E → Result A E → Type 0
StaysOk r s = IfOk r (λ a. s ≡ Ok a)

stays_ok : {A E : Type 0} (r : Result A E) → StaysOk r r
stays_ok r = grind arith

next_ok : {A B E : Type 0} (r s : Result A E) (f g : A → Result B E) → StaysOk r s → ((a : A) → StaysOk (f a) (g a)) → StaysOk (r >>= f) (s >>= g)
next_ok r s f g first each = grind arith

or_stays : {A E : Type 0} (o p : Option A) (e : E) → Stays o p → StaysOk (ok_or o e) (ok_or p e)
or_stays o p e first = grind arith

under : {A : Type 0} (a : A) (b c : Bool) → (b ≡ true → c ≡ true) → Stays (cond b (Some a) None) (cond c (Some a) None)
under a b c wider = grind arith

side_stays : (name : String) (d : Data) → Stays (number_member name 1 one.most_pixels d) (number_member name 1 most_pixels d)
side_stays name d = grind arith

vertex_stays : (d : Data) → Stays (one.vertex_of d) (vertex_of 1 d)
vertex_stays d = grind (arith, nat_tests)

vertices_stay : (ds : List Data) → Stays (all_of one.vertex_of ds) (all_of (vertex_of 1) ds)
vertices_stay [] = refl
vertices_stay (d ∷ ds) =
    next (one.vertex_of d) (vertex_of 1 d) _ _ (vertex_stays d) (λ v. next (all_of one.vertex_of ds) (all_of (vertex_of 1) ds) _ _ (vertices_stay ds)
    (λ vs. refl))

draw_stays : (d : Data) → Stays (one.draw_of d) (draw_event 1 d)
draw_stays d =
    next (text_member "interp" d >>? spelled_interp) _ _ _ (stays (text_member "interp" d >>? spelled_interp)) (λ interp.
    next (one.vertices_at "vertices" d) (vertices_member 1 "vertices" d) _ _
    (next (array_member "vertices" d) _ _ _ (stays (array_member "vertices" d)) vertices_stay) (λ vertices.
    stays (indices_member "indices" d >>? λ indices. result_ok (one.made vertices indices interp) >>? λ draw. Some (Draw draw))))

kind_stays : (kind : List ℕ) (d : Data) → StaysOk (one.event_of_kind kind d) (event_of_kind 1 kind d)
kind_stays kind d =
    alike (bytes_eq kind (codes "clear")) (ok_or (clear_event d) BadField) _ _ (alike (bytes_eq kind (codes "raster")) (ok_or (raster_event d) BadField) _ _
    (alike (bytes_eq kind (codes "scissor")) (ok_or (scissor_event d) BadField) _ _ (alike (bytes_eq kind (codes "blend")) (ok_or (blend_event d) BadField) _ _
    (alike (bytes_eq kind (codes "factor")) (ok_or (factor_of d) BadField) _ _
    (either (bytes_eq kind (codes "draw")) _ _ _ _ (or_stays (one.draw_of d) (draw_event 1 d) BadField (draw_stays d))
    (stays_ok (cond (bytes_eq kind (codes "marker")) (ok_or (marker_event d) BadField) (Err UnknownEvent))))))))
  where
    alike : (b : Bool) (e r s : Result Event EventFault) → StaysOk r s → StaysOk (cond b e r) (cond b e s)
    alike true e r s rest = stays_ok e
    alike false e r s rest = rest

    either : (b : Bool) (e f r s : Result Event EventFault) → StaysOk e f → StaysOk r s → StaysOk (cond b e r) (cond b f s)
    either true e f r s first rest = first
    either false e f r s first rest = rest

number_stays : (number : ℕ) (d : Data) → StaysOk (one.event_numbered number d) (event_numbered 1 number d)
number_stays number d =
    kept (one.event_of d) (event_of 1 d) (next_ok (ok_or (text_member "kind" d) BadField) _ _ _ (stays_ok (ok_or (text_member "kind" d) BadField))
    (λ kind. kind_stays kind d))
  where
    kept : (r s : Result Event EventFault) → StaysOk r s → StaysOk (map_fault (numbered number) r) (map_fault (numbered number) s)
    kept (Err fault) s first = tt
    kept (Ok e) s first = ap (map_fault (numbered number)) first

events_stay : (number : ℕ) (ds : List Data) → StaysOk (one.events_from number ds) (events_from 1 number ds)
unfolding events_from one.events_from
events_stay number [] = refl
events_stay number (d ∷ ds) =
    next_ok (one.event_numbered number d) (event_numbered 1 number d) _ _ (number_stays number d)
    (λ event. next_ok (one.events_from (number + 1) ds) (events_from 1 (number + 1) ds) _ _ (events_stay (number + 1) ds) (λ others. refl))

-- ---- no depths

abbrev Flat : Option Event → Type 0
Flat event = IfSome event IsFlat

after : {A : Type 0} (P : A → Type 0) (o : Option A) (f : A → Option Event) → IfSome o P → ((a : A) → P a → Flat (f a)) → Flat (o >>? f)
after P o f holds each = grind arith

any : {A : Type 0} (o : Option A) (f : A → Option Event) → ((a : A) → Flat (f a)) → Flat (o >>? f)
any o f each = grind arith

through : {A B : Type 0} (P : B → Type 0) (o : Option A) (f : A → Option B) → ((a : A) → IfSome (f a) P) → IfSome (o >>? f) P
through P o f each = grind arith

abbrev IsZero : Vertex → Type 0
IsZero v = v.z ≡ 0

vertex_zero : (d : Data) → IfSome (one.vertex_of d) IsZero
vertex_zero d = grind arith

all_zero : (ds : List Data) → IfSome (all_of one.vertex_of ds) (λ vs. All IsZero vs)
all_zero [] = All-nil IsZero
all_zero (d ∷ ds) = both (one.vertex_of d) (all_of one.vertex_of ds) (vertex_zero d) (all_zero ds)
  where
    both : (first : Option Vertex) (others : Option (List Vertex)) → IfSome first IsZero → IfSome others (λ vs. All IsZero vs)
        → IfSome (first >>? λ v. others >>? λ vs. Some (v ∷ vs)) (λ vs. All IsZero vs)
    both None others here rest = tt
    both (Some v) None here rest = tt
    both (Some v) (Some vs) here rest = All-cons IsZero v vs here rest

made_of : (vs : List Vertex) (is : Option (List ℕ)) (interp : Interp) → All IsZero vs
    → IfSome (result_ok (one.made vs is interp)) (λ draw. All IsZero draw.vertices × (draw.picture ≡ None))
made_of vs is interp zeros = grind arith

or_fault : (o : Option Event) → Flat o → IfOk (ok_or o BadField) IsFlat
or_fault o flat = grind arith

either : (b : Bool) (first second : Result Event EventFault) → IfOk first IsFlat → IfOk second IsFlat → IfOk (cond b first second) IsFlat
either b first second f s = grind arith

nothing_or : (b : Bool) (o : Option Event) → Flat o → Flat (cond b None o)
nothing_or b o flat = grind arith

flat_kind : (kind : List ℕ) (d : Data) → IfOk (one.event_of_kind kind d) IsFlat
flat_kind kind d =
    either (bytes_eq kind (codes "clear")) _ _ (or_fault (clear_event d) (any (colour_member "color" d) _ (λ colour. tt)))
    (either (bytes_eq kind (codes "raster")) _ _
    (or_fault (raster_event d)
    (any (text_member "cull" d >>? spelled_cull) _ (λ cull. any (flag_member "front_ccw" d) _ (λ ccw. any (flag_member "scissor" d) _ (λ scissor. tt)))))
    (either (bytes_eq kind (codes "scissor")) _ _ (or_fault (scissor_event d) (any (rect_member "rect" d) _ (λ rect. tt)))
    (either (bytes_eq kind (codes "blend")) _ _
    (or_fault (blend_event d)
    (any (flag_member "enable" d) _
    (λ enable. any (part_member "rgb" d) _
    (λ rgb. any (part_member "alpha" d) _ (λ alpha. any (number_member "mask" 0 15 d) _ (λ mask. nothing_or (has_colour_factor alpha) _ tt))))))
    (either (bytes_eq kind (codes "factor")) _ _ (or_fault (factor_of d) (any (colour_member "color" d) _ (λ colour. tt)))
    (either (bytes_eq kind (codes "draw")) _ _
    (or_fault (one.draw_of d)
    (any (text_member "interp" d >>? spelled_interp) _ (λ interp.
    after (λ vs. All IsZero vs) (one.vertices_at "vertices" d) _ (through (λ vs. All IsZero vs) (array_member "vertices" d) _ all_zero) (λ vertices zeros.
    any (indices_member "indices" d) _ (λ indices.
    after (λ draw. All IsZero draw.vertices × (draw.picture ≡ None)) (result_ok (one.made vertices indices interp)) _
    (made_of vertices indices interp zeros) (λ draw holds. holds))))))
    (either (bytes_eq kind (codes "marker")) _ _
    (or_fault (marker_event d) (any (text_member "name" d) _ (λ name. any (result_ok (labelled name)) _ (λ label. tt)))) tt))))))

flat_numbered : (number : ℕ) (d : Data) → IfOk (one.event_numbered number d) IsFlat
flat_numbered number d = kept (one.event_of d) (read (ok_or (text_member "kind" d) BadField))
  where
    read : (kind : Result (List ℕ) EventFault) → IfOk (kind >>= λ k. one.event_of_kind k d) IsFlat
    read (Ok kind) = flat_kind kind d
    read (Err fault) = tt

    kept : (event : Result Event EventFault) → IfOk event IsFlat → IfOk (map_fault (numbered number) event) IsFlat
    kept (Ok e) flat = flat
    kept (Err fault) flat = tt

flat_events : (number : ℕ) (ds : List Data) → IfOk (one.events_from number ds) (λ es. All IsFlat es)
unfolding one.events_from
flat_events number [] = All-nil IsFlat
flat_events number (d ∷ ds) = both (one.event_numbered number d) (one.events_from (number + 1) ds) (flat_numbered number d) (flat_events (number + 1) ds)
  where
    both : (first : Result Event CaptureFault) (others : Result (List Event) CaptureFault) → IfOk first IsFlat → IfOk others (λ es. All IsFlat es)
        → IfOk (first >>= λ event. others >>= λ es. Ok (event ∷ es)) (λ es. All IsFlat es)
    both (Err fault) others flat rest = tt
    both (Ok e) (Err fault) flat rest = tt
    both (Ok e) (Ok es) flat rest = All-cons IsFlat e es flat rest

-- ---- the same table

abbrev IsRead : Table → Type 0
IsRead t = (t.version ≡ 1) × All IsFlat t.events

-- the second reading of a table is the first, which is flat
abbrev Reads : Result Table CaptureFault → Result Table CaptureFault → Type 0
Reads r s = IfOk r (λ t. (s ≡ Ok t) × IsRead t)

-- a step before it, of which something is known
reads : {A : Type 0} (P : A → Type 0) (r s : Result A CaptureFault) (f g : A → Result Table CaptureFault) → IfOk r (λ a. (s ≡ Ok a) × P a)
    → ((a : A) → P a → Reads (f a) (g a)) → Reads (r >>= f) (s >>= g)
reads P r s f g first each = grind arith

with_nothing : {A : Type 0} (r s : Result A CaptureFault) → StaysOk r s → IfOk r (λ a. (s ≡ Ok a) × Unit {0})
with_nothing r s first = grind arith

first_version : (d : Data) → IfOk (ok_or (number_member "version" 1 1 d) Version) (λ v. (ok_or (number_member "version" 1 3 d) Version ≡ Ok v) × (v ≡ 1))
first_version d = grind arith

few_stay : (listed : List Data)
    → StaysOk {E = CaptureFault} (cond (nat_lt one.most_events (length listed)) (Err TooMany) (Ok listed))
    (cond (nat_lt most_events (length listed)) (Err TooMany) (Ok listed))
few_stay listed = grind arith

table_stays : (d : Data) → Reads (one.table_of_value d) (table_of_value d)
unfolding table_of_value one.table_of_value
table_stays d =
    reads _ (ok_or (listed_events d) NotCapture) _ _ _ (with_nothing _ _ (stays_ok (ok_or (listed_events d) NotCapture))) (λ listed _.
    reads (λ v. v ≡ 1) (ok_or (number_member "version" 1 1 d) Version) _ _ _ (first_version d) (λ version is_one. rw is_one (
    reads _ (ok_or (number_member "width" 1 one.most_pixels d) Size) _ _ _ (with_nothing _ _ (or_stays _ _ Size (side_stays "width" d))) (λ width _.
    reads _ (ok_or (number_member "height" 1 one.most_pixels d) Size) _ _ _ (with_nothing _ _ (or_stays _ _ Size (side_stays "height" d))) (λ height _.
    reads _ (cond (nat_lt one.most_events (length listed)) (Err TooMany) (Ok listed)) _ _ _ (with_nothing _ _ (few_stay listed)) (λ few _.
    found width height (one.events_from 1 few) (events_from 1 1 few) (events_stay 1 few) (flat_events 1 few)))))))
  where
    found : (width height : ℕ) (r s : Result (List Event) CaptureFault) → StaysOk r s → IfOk r (λ es. All IsFlat es)
        → Reads (r >>= λ es. Ok (all_on 1 width height es)) (s >>= λ es. Ok (all_on 1 width height es))
    found width height (Err e) s first flat = tt
    found width height (Ok es) s first flat =
        (ap (λ (read : Result (List Event) CaptureFault). read >>= λ es. Ok (all_on 1 width height es)) first, (refl, flat))

-- the same table, which is flat
pub reads_same : (bytes : List ℕ) (t : Table) → one.capture_of bytes ≡ Ok t → (capture_of bytes ≡ Ok t) × (t.version ≡ 1) × All IsFlat t.events
unfolding capture_of one.capture_of
reads_same bytes t is = let found : Reads (Ok t) (capture_of bytes) = rw is at whole in (found.0, found.1.0, found.1.1)
  where
    whole : Reads (one.capture_of bytes) (capture_of bytes)
    whole =
        reads _ (cond (nat_lt most_bytes (length bytes)) (Err TooLong) (Ok bytes)) _ _ _
        (with_nothing _ _ (stays_ok (cond (nat_lt most_bytes (length bytes)) (Err TooLong) (Ok bytes)))) (λ text _.
        reads _ (ok_or (json_of text) NotJson) _ _ _ (with_nothing _ _ (stays_ok (ok_or (json_of text) NotJson))) (λ value _. table_stays value))
