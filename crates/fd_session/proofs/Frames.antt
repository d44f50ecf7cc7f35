-- How the owners of a frame stand, and what the moves of all leave of them.
use Rattle.std.proofs.Common.{◌≡◌, ℕ, ◌+◌, ◌-◌, ◌*◌, ◌/◌, ◌<◌, ◌≤◌, Bool, true, false, IsTrue, List, [], ◌∷◌, ◌++◌, length, map, take, drop, set, get_or}
use Rattle.std.proofs.Common.{refl, sym, ap, ◌∙◌, subst, arith, inl, inr, All}
use Rattle.std.specs.Prelude.{None}
use Rattle.std.specs.List.{AllZip}
use Rattle.std.proofs.Math.Seq.{take-append_seam}
use Rattle.std.proofs.lemmas.Bool.{cases_lt}
use Rattle.std.proofs.lemmas.List.{length-map, get_or-map, map_push, take_more_set}
use Rattle.std.proofs.lemmas.List.FromFn.{length-map-range_with_len, get_or-map-range_with_len, map-range_with_len_more}
use Rattle.std.proofs.lemmas.List.Elements.{All-head, All-tail, All-cons, All-nil, All-get_or, All-push, All-map}
use Rattle.fd_tile.specs.declared.place.Place.{Place}
use Rattle.fd_tile.specs.Tile.{Pixel, TileImage, fresh_pixel, painted, pixels_of}
use Rattle.fd_tile.specs.Grid.{TargetSize, tile_count, place_of}
use Rattle.fd_events.specs.Table.{Table, IsTable}
use Rattle.fd_owner.specs.History.{Frame, History, position, last_image, extend_by, extend_to, first_frames, fresh_history, drawn_history, without_past}
use Rattle.fd_owner.specs.History.{frame_without_kept}
use Rattle.fd_owner.specs.Shown.{Shown, IsInside, gone_back_to}
use Rattle.fd_owner.proofs.Drawn.{position_drawn}
use Rattle.fd_owner.proofs.Pictures.{pixels_painted}
use Rattle.fd_owner.proofs.Histories.{extend_none, first_all, first_extend_to, extend_to_on, position_extend_to}
use Rattle.fd_owner.proofs.Forgets.{position-without_past, last-without_past, last_extend_by}
use Rattle.fd_crew.specs.declared.crew.Outcome.TheVariants.{Reached, Stopped}
use Rattle.fd_crew.specs.Lanes.{opening_position, GoneTo, StandsOn, CameTo, RefusedAt, IsQuiet, RefusedNoLower, EndsApart}
use Rattle.fd_crew.proofs.Ending.{any_first, came_further}
use Rattle.fd_session.specs.Held.{kept, as_kept, Stands, StandsFrom, places_of, first_places, size_of, HoldsAll, IsLeft}
use Rattle.fd_session.specs.Moves.{Comes}

-- ---- what is kept of a history

kept_fresh : (f : Bool) (place : Place) → kept f place (fresh_history place) ≡ fresh_history place
kept_fresh false place = refl
kept_fresh true place = refl

pub position_kept : (f : Bool) (place : Place) (h : History) → position (kept f place h) ≡ position h
position_kept false place h = refl
position_kept true place h = position-without_past place h

pub last_kept : (f : Bool) (place : Place) (h : History) → last_image (kept f place h) ≡ last_image h
last_kept false place h = refl
last_kept true place h = last-without_past place h

alike : (f : Frame) (fs gs : List Frame) → length fs ≡ length gs → map (λ _. f) fs ≡ map (λ _. f) gs
alike f [] [] long = refl
alike f [] (g ∷ gs) long = absurd (omega arith)
alike f (g ∷ fs) [] long = absurd (omega arith)
alike f (g ∷ fs) (h ∷ gs) long = ap (λ (l : List Frame). f ∷ l) (alike f fs gs (omega arith))

-- of two histories that show the same the same is left
same_left : (place : Place) (g h : History) → position g ≡ position h → last_image g ≡ last_image h → without_past place g ≡ without_past place h
same_left place g h long same =
    let left : List (List Pixel) → List Frame → History = λ rows fs. record { opening = rows; frames = map (λ _. frame_without_kept place rows) fs } in
    ap (λ (rows : List (List Pixel)). left rows g.frames) same
    ∙ ap (λ (fs : List Frame). let o : History = record { opening = last_image h; frames = fs } in o)
    (alike (frame_without_kept place (last_image h)) g.frames h.frames long)

module _ (table : Table) (place : Place) (k to : ℕ) where
  abbrev drawn : ℕ → History
  drawn n = drawn_history table place n

  -- it goes on as all of it would
  kept_further : (f : Bool) → k ≤ to → kept f place (extend_to table place to (kept f place (drawn k))) ≡ kept f place (drawn to)
  kept_further false le = extend_to_on table place k to (fresh_history place) (omega arith) le
  kept_further true le =
      let left : History = without_past place (drawn k) in
      let at : position left ≡ position (drawn k) = position-without_past place (drawn k) in
      let there : position (drawn k) ≡ k = position_drawn table place k in
      let same : to - position left ≡ to - position (drawn k) = omega (arith, at) in
      same_left place (extend_to table place to left) (drawn to)
      (omega (arith, position_extend_to table place to left (omega (arith, at, there)), position_drawn table place to))
      (last_extend_by table place (to - position left) left (drawn k) at (last-without_past place (drawn k))
      ∙ ap (λ (n : ℕ). last_image (extend_by table place n (drawn k))) same
      ∙ ap last_image (extend_to_on table place k to (fresh_history place) (omega arith) le))

  -- and back, where nothing was forgotten
  kept_less : (f : Bool) → to ≤ k → (IsTrue f → k ≡ to) → first_frames to (kept f place (drawn k)) ≡ kept f place (drawn to)
  kept_less false le together = first_extend_to table place to k (fresh_history place) (omega arith) le
  kept_less true le together =
      first_all to (without_past place (drawn k)) (omega (arith, together refl, position-without_past place (drawn k), position_drawn table place k))
      ∙ ap (λ (n : ℕ). without_past place (drawn n)) (together refl)

-- ---- one owner

pub position_stands : (f : Bool) (table : Table) (k : ℕ) (o : Shown) → Stands f table k o → position o.history ≡ k
position_stands f table k o at = ap position at.history ∙ position_kept f o.place (drawn_history table o.place k) ∙ position_drawn table o.place k

stands_at : (f : Bool) (table : Table) (k : ℕ) (place : Place) (o : Shown) → o.place ≡ place → o.history ≡ kept f place (drawn_history table place k)
    → IsInside place table → Stands f table k o
stands_at f table k place o is history inside = record {
  history = history ∙ ap (λ (q : Place). kept f q (drawn_history table q k)) (sym is);
  inside = subst (λ (q : Place). IsInside q table) (sym is) inside;
}

-- it goes back
pub stands_less : (f : Bool) (table : Table) (k to : ℕ) (o p : Shown) → to ≤ k → (IsTrue f → k ≡ to) → Stands f table k o → p ≡ gone_back_to to o
    → Stands f table to p
stands_less f table k to o p le together at gone =
    stands_at f table to o.place p (ap (λ (s : Shown). s.place) gone)
    (ap (λ (s : Shown). s.history) gone ∙ ap (first_frames to) at.history ∙ kept_less table o.place k to f le together) at.inside

pub stands_from : (f g : Bool) (table : Table) (k : ℕ) (o : Shown) → Stands f table k o → StandsFrom f g table k o
stands_from f g table k o at = record { at = k; stands = at; above = omega arith; level = λ _. refl }

pub from_lowest : (table : Table) (low lowest : ℕ) (owners : List Shown) → All (StandsFrom false false table low) owners
    → All (λ (o : Shown). lowest ≤ position o.history) owners → All (StandsFrom false false table lowest) owners
from_lowest table low lowest owners from above n d below =
    let s = from n d below in
    record {
      at = s.at;
      stands = s.stands;
      above = omega (arith, above n d below, position_stands false table s.at (get_or owners n d) s.stands);
      level = λ t. absurd (cc);
    }

pub no_lower : (f g : Bool) (table : Table) (low : ℕ) (o : Shown) → StandsFrom f g table low o → low ≤ position o.history
no_lower f g table low o from = omega (arith, from.above, position_stands f table from.at o from.stands)

-- it goes on
further : (f g : Bool) (table : Table) (low to : ℕ) (o p : Shown) (from : StandsFrom f g table low o) → from.at ≤ to → GoneTo table to o p
    → StandsFrom f g table to (as_kept f p)
further f g table low to o p from le gone =
    stands_from f g table to (as_kept f p)
    (stands_at f table to o.place (as_kept f p) gone.place
    (cc (gone.place, gone.history, from.stands.history, kept_further table o.place from.at to f le)) from.stands.inside)

no_further : (table : Table) (place : Place) (to : ℕ) (h : History) → to ≤ position h → extend_to table place to h ≡ h
no_further table place to h le = let none : to - position h ≡ 0 = omega (arith, le) in ap (λ (n : ℕ). extend_by table place n h) none

-- or it stays
goes_on : (f g : Bool) (table : Table) (low to : ℕ) (o p : Shown) → (IsTrue f → IsTrue g) → low ≤ to → StandsFrom f g table low o → StandsOn table to o p
    → StandsFrom f g table to (as_kept f p)
goes_on true false table low to o p forgotten le from on = let never = forgotten refl in absurd (cc)
goes_on f true table low to o p forgotten le from on =
    let there : from.at ≡ low = from.level refl in
    further f true table low to o p from (omega (arith, there, le))
    (record { place = on.place; history = on.history; after = omega (arith, there, le, position_stands f table from.at o from.stands) })
goes_on false false table low to o p forgotten le from on =
    let there : position o.history ≡ from.at = position_stands false table from.at o from.stands in
    elim (cases_lt to from.at) [
      | inl below ↦ record {
        at = from.at;
        stands = stands_at false table from.at o.place p on.place
            (on.history ∙ no_further table o.place to o.history (omega (arith, there, below)) ∙ from.stands.history) from.stands.inside;
        above = omega (arith, below);
        level = λ t. absurd (cc);
      }
      | inr above ↦ further false false table low to o p from above (record { place = on.place; history = on.history; after = omega (arith, there, above) })
    ]

-- or it comes down to where another one stopped
comes : (f g : Bool) (table : Table) (low to : ℕ) (o p : Shown) → (IsTrue f → IsTrue g) → low ≤ to → StandsFrom f g table low o → CameTo table to o p
    → StandsFrom f g table to (as_kept f p)
comes true false table low to o p forgotten le from came = let never = forgotten refl in absurd (cc)
comes f true table low to o p forgotten le from came =
    let there : from.at ≡ low = from.level refl in
    further f true table low to o p from (omega (arith, there, le))
    (came_further table to o p (omega (arith, there, le, position_stands f table from.at o from.stands)) came)
comes false false table low to o p forgotten le from came =
    let there : position o.history ≡ from.at = position_stands false table from.at o from.stands in
    elim (cases_lt to from.at) [
      | inl below ↦ stands_from false false table to p (stands_at false table to o.place p came.place
          (came.history ∙ ap (first_frames to) (no_further table o.place to o.history (omega (arith, there, below)) ∙ from.stands.history)
          ∙ kept_less table o.place from.at to false (omega (arith, below)) (λ t. absurd (cc))) from.stands.inside)
      | inr above ↦ further false false table low to o p from above (came_further table to o p (omega (arith, there, above)) came)
    ]

-- ---- all owners

-- a relation that moves each owner moves all
module _ (P Q : Shown → Type 0) (R : Shown → Shown → Type 0) (step : (o p : Shown) → P o → R o p → (p.place ≡ o.place) × Q p) where
  pub all_moved : (old new : List Shown) → All P old → AllZip R old new → IsLeft Q old new
  all_moved [] [] at gone = record { places = refl; each = All-nil Q }
  all_moved [] (p ∷ new) at gone = absurd gone
  all_moved (o ∷ old) [] at gone = absurd gone
  all_moved (o ∷ old) (p ∷ new) at gone =
      let here = step o p (All-head P o old at) gone.0 in
      let rest = all_moved old new (All-tail P o old at) gone.1 in
      record {
        places = ap (λ (q : Place). q ∷ places_of new) here.0 ∙ ap (λ (l : List Place). o.place ∷ l) rest.places;
        each = All-cons Q p new here.1 rest.each;
      }

places_settled : (f : Bool) (owners : List Shown) → places_of (map (as_kept f) owners) ≡ places_of owners
places_settled f [] = refl
places_settled f (o ∷ owners) = ap (λ (l : List Place). o.place ∷ l) (places_settled f owners)

all_settled : (f : Bool) (P : Shown → Type 0) (old mid new : List Shown) → new ≡ map (as_kept f) mid → IsLeft (λ p. P (as_kept f p)) old mid → IsLeft P old new
all_settled f P old mid new is left = rw is (record { places = places_settled f mid ∙ left.places; each = All-map P (as_kept f) mid left.each })

-- how a run of the crew ends
module _ (f g : Bool) (forgotten : IsTrue f → IsTrue g) (table : Table) (from to : ℕ) (old mid new : List Shown)
    (stand : All (StandsFrom f g table from) old) (is : new ≡ map (as_kept f) mid) where
  pub run_reached : from ≤ to → EndsApart (λ o. o) table to old mid Reached → Comes (StandsFrom f g table) from to to old new
  run_reached ahead ended = record {
    ahead = ahead;
    within = omega arith;
    left = all_settled f (StandsFrom f g table to) old mid new is
        (all_moved (StandsFrom f g table from) (λ p. StandsFrom f g table to (as_kept f p)) (λ o p. StandsOn table to o p × IsQuiet o p)
        (λ o p s e. (e.0.place, goes_on f g table from to o p forgotten ahead s e.0)) old mid stand ended);
  }

  pub run_stopped : (at : ℕ) → EndsApart (λ o. o) table to old mid (Stopped at) → Comes (StandsFrom f g table) from to at old new
  run_stopped at ended =
      let low : from ≤ at = any_first (RefusedAt at) (StandsFrom f g table from) (from ≤ at)
      (λ o p s r. omega (arith, no_lower f g table from o s, r.after)) old mid stand ended.2 in
      record {
        ahead = low;
        within = omega (arith, ended.0);
        left = all_settled f (StandsFrom f g table at) old mid new is
            (all_moved (StandsFrom f g table from) (λ p. StandsFrom f g table at (as_kept f p)) (λ o p. CameTo table at o p × RefusedNoLower at o p)
            (λ o p s e. (e.0.place, comes f g table from at o p forgotten low s e.0)) old mid stand ended.1);
      }

-- the owners that none is left lower than a position go back to it
pub left_down : (f g : Bool) → (IsTrue f → IsTrue g) → (table : Table) (low : ℕ) (old mid new : List Shown) → IsLeft (StandsFrom f g table low) old mid
    → AllZip (λ o p. p ≡ gone_back_to low o) mid new → IsLeft (Stands f table low) old new
left_down f g forgotten table low old mid new from gone =
    let all = all_moved (StandsFrom f g table low) (Stands f table low) (λ o p. p ≡ gone_back_to low o)
    (λ o p s g. (ap (λ (s : Shown). s.place) g, stands_less f table s.at low o p s.above (λ t. s.level (forgotten t)) s.stands g)) mid new from.each gone in
    record { places = all.places ∙ from.places; each = all.each }

-- those that stand together are there
pub level_left : (f g : Bool) → g ≡ true → (table : Table) (low : ℕ) (old new : List Shown) → IsLeft (StandsFrom f g table low) old new
    → IsLeft (Stands f table low) old new
level_left f g together table low old new from = record {
  places = from.places;
  each = λ n d below. let s = from.each n d below in subst (λ (k : ℕ). Stands f table k (get_or new n d)) (s.level together) s.stands;
}

-- one owner more stands no lower
pub all_more : (owners : List Shown) (i : ℕ) (o : Shown) (was low : ℕ) → i < length owners → low ≤ was → low ≤ position o.history
    → All (λ (p : Shown). was ≤ position p.history) (take i owners) → All (λ (p : Shown). low ≤ position p.history) (take (i + 1) (set owners i o))
all_more owners i o was low below less here all =
    let P : Shown → Type 0 = λ p. low ≤ position p.history in
    subst (All P) (sym (take_more_set owners i o below)) (All-push P (take i owners) o (λ n d within. omega (arith, less, all n d within)) here)

-- ---- an owner for each tile

-- one more, on whose tile nothing was drawn
pub one_more : (f : Bool) (table : Table) (size : TargetSize) (count : ℕ) (owners : List Shown) (place : Place) (tile : TileImage) (o : Shown)
    → size ≡ size_of table → places_of owners ≡ first_places size count → All (Stands f table 0) owners
    → place ≡ place_of size count → (place.left + place.width ≤ size.width) × (place.top + place.height ≤ size.height)
    → tile ≡ record (painted place (λ _ _. fresh_pixel)) { made = false; deep = false }
    → o ≡ record { place = tile.place; history = record { opening = pixels_of tile; frames = [] }; refusals = 0; refused_at = None }
    → (places_of (owners ++ o ∷ []) ≡ first_places size (count + 1)) × All (Stands f table 0) (owners ++ o ∷ [])
one_more f table size count owners place tile o sized places each is within paints made =
    let placed : o.place ≡ place = ap (λ (s : Shown). s.place) made ∙ ap (λ (t : TileImage). t.place) paints in
    let opened : List (List Pixel) → History = λ rows. record { opening = rows; frames = [] } in (
      cc (map_push (λ (s : Shown). s.place) owners o, places, placed, is, map-range_with_len_more (place_of size) 0 count count (omega arith)),
      All-push (Stands f table 0) owners o each (stands_at f table 0 place o placed
          (ap (λ (s : Shown). s.history) made ∙ ap (λ (t : TileImage). opened (pixels_of t)) paints ∙ ap opened (pixels_painted place (λ _ _. fresh_pixel))
          ∙ sym (kept_fresh f place) ∙ ap (kept f place) (sym (extend_none table place (fresh_history place))))
          (subst (λ (s : TargetSize). (place.left + place.width ≤ s.width) × (place.top + place.height ≤ s.height) → IsInside place table) (sym sized)
          (λ w. record { right = w.0; bottom = w.1 }) within)),
    )

pub count_placed : (size : TargetSize) (owners : List Shown) → places_of owners ≡ first_places size (tile_count size) → length owners ≡ tile_count size
count_placed size owners places = cc (length-map owners (λ (o : Shown). o.place), places, length-map-range_with_len (place_of size) 0 (tile_count size))

some_tiles : (a b : ℕ) → 1 ≤ a → 1 ≤ b → 0 < (a + 31) / 32 * ((b + 31) / 32)
some_tiles a b wide high = let down : 1 ≤ (b + 31) / 32 = omega arith in grind arith

-- where all stand is where the first stands
opening_at : (f : Bool) (table : Table) (k : ℕ) (owners : List Shown) → 0 < length owners → All (Stands f table k) owners → opening_position owners ≡ k
opening_at f table k [] some at = absurd (omega arith)
opening_at f table k (o ∷ owners) some at = position_stands f table k o (All-head (Stands f table k) o owners at)

-- owners that were lent are given back as they are now
module _ (size : TargetSize) (old lent new : List Shown) (n : ℕ) (is : lent ≡ old) (all : n ≡ length old)
    (places : places_of old ≡ first_places size (tile_count size)) (left : places_of new ≡ places_of lent) where
  pub places_given : places_of new ≡ first_places size (tile_count size)
  places_given = left ∙ ap places_of is ∙ places

  pub given_whole : take n (new ++ drop (length new) old) ≡ new
  given_whole =
      let long : n ≡ length new = omega (arith, all, count_placed size old places, count_placed size new places_given) in
      cc (long, take-append_seam new (drop (length new) old))

  pub long_given : n ≡ length (take n (new ++ drop (length new) old))
  long_given = omega (arith, all, count_placed size old places, count_placed size new places_given, ap length given_whole)

module _ (f : Bool) (table : Table) (size : TargetSize) (valid : IsTable table) (sized : size ≡ size_of table) where
  pub held_at : (owners : List Shown) (k : ℕ) → places_of owners ≡ first_places size (tile_count size) → All (Stands f table k) owners → k ≤ length table.events
      → HoldsAll f table size owners × (opening_position owners ≡ k)
  held_at owners k places stand within =
      let wide : 1 ≤ size.width = omega (arith, valid.min_width, ap (λ (s : TargetSize). s.width) sized) in
      let high : 1 ≤ size.height = omega (arith, valid.min_height, ap (λ (s : TargetSize). s.height) sized) in
      let some : 0 < length owners = omega (arith, count_placed size owners places, some_tiles size.width size.height wide high) in
      let at : opening_position owners ≡ k = opening_at f table k owners some stand in (
        record {
          valid = valid;
          sized = sized;
          places = places;
          stand = subst (λ (j : ℕ). All (Stands f table j) owners) (sym at) stand;
          reached = omega (arith, at, within);
        },
        at,
      )

  -- owners that were lent, and given back at a position
  pub held_back : (old lent new : List Shown) (n k : ℕ) → lent ≡ old → n ≡ length old → places_of old ≡ first_places size (tile_count size)
      → IsLeft (Stands f table k) lent new → k ≤ length table.events
      → HoldsAll f table size (take n (new ++ drop (length new) old)) × (opening_position (take n (new ++ drop (length new) old)) ≡ k)
  held_back old lent new n k is all places left within =
      subst (λ (l : List Shown). HoldsAll f table size l × (opening_position l ≡ k)) (sym (given_whole size old lent new n is all places left.places))
      (held_at new k (places_given size old lent new n is all places left.places) left.each within)

-- the owner of tile n
module _ (size : TargetSize) (owners : List Shown) (places : places_of owners ≡ first_places size (tile_count size)) (n : ℕ) where
  pub place_at : (d : Shown) → n < tile_count size → (get_or owners n d).place ≡ place_of size n
  place_at d within =
      sym (get_or-map (λ (s : Shown). s.place) owners n d (place_of size n) (omega (arith, count_placed size owners places, within)))
      ∙ ap (λ (l : List Place). get_or l n (place_of size n)) places
      ∙ get_or-map-range_with_len (place_of size) 0 (tile_count size) n n (place_of size n) within (omega arith)

  module _ (o : Shown) (within : n < tile_count size) (is : o ≡ get_or owners n o) where
    pub owner_placed : o.place ≡ place_of size n
    owner_placed = ap (λ (s : Shown). s.place) is ∙ place_at o within

    pub owner_at : (P : Shown → Type 0) → All P owners → P o
    owner_at P each = subst P (sym is) (All-get_or P owners n o (omega (arith, count_placed size owners places, within)) each)
