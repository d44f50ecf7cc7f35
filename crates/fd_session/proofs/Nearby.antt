-- Owners that stand at another position than the session, at which their tile is the same.
use Rattle.std.proofs.Common.{◌≡◌, ℕ, suc, ◌+◌, ◌-◌, ◌*◌, ◌/◌, ◌%◌, ◌<◌, ◌≤◌, min, max, Bool, ◌||◌, true, false, IsTrue}
use Rattle.std.proofs.Common.{List, All, length, get_or, set, take, drop, ◌++◌, Some, option_map}
use Rattle.std.proofs.Common.{◌≢◌, ◌⊎◌, refl, sym, ap, ◌∙◌, subst, arith, inl, inr}
use Rattle.std.proofs.lemmas.Bool.Decides.{nat_tests}
use Rattle.std.proofs.lemmas.Bool.{cases_lt}
use Rattle.std.proofs.lemmas.Nat.{div-add-mod', le-div, mul-le, row_fits, mod_below, row-Below}
use Rattle.std.proofs.Math.Seq.{map-set_same}
use Rattle.std.proofs.lemmas.List.{get_or-set_same, get_or-set_other, length-set, get_or-take, get_or-drop, length-take, length-take-le, length-drop}
use Rattle.std.proofs.lemmas.List.{map-append, take-append-drop}
use Rattle.std.proofs.lemmas.List.Elements.{All-append}
use Rattle.fd_cover.specs.declared.bounds.Bounds.{Bounds}
use Rattle.fd_cover.specs.Bounds.{is_within, HoldsBoth}
use Rattle.fd_tile.specs.declared.place.Place.{Place}
use Rattle.fd_tile.specs.Place.{Holds, IsTilePlace}
use Rattle.fd_tile.proofs.Pixels.{over_place_same}
use Rattle.fd_tile.specs.Grid.{TargetSize, columns_of, rows_of_tiles, tile_count, place_of}
use Rattle.fd_events.specs.Image.{pixel_at}
use Rattle.fd_events.specs.Reach.{reach_of}
use Rattle.fd_events.specs.Table.{Table, IsTable, event_at}
use Rattle.fd_owner.specs.History.{position, fresh_history}
use Rattle.fd_owner.specs.Shown.{Shown, IsInside, gone_on_to, gone_back_to}
use Rattle.fd_owner.specs.Untouched.{IsUntouched, AreUntouched, Misses}
use Rattle.fd_owner.proofs.Drawn.{last_drawn}
use Rattle.fd_owner.proofs.Histories.{extend_to_on}
use Rattle.fd_owner.proofs.PassedOver.{untouched_missed}
use Rattle.fd_owner.proofs.Untouched.{pixel_alike}
use Rattle.fd_crew.specs.Lanes.{opening_position}
use Rattle.fd_session.specs.Held.{Stands, ShowsAt, places_of, first_places, size_of, HoldsAll, IsLeft}
use Rattle.fd_session.specs.Near.{StandsNear, HoldsNear, Between}
use Rattle.fd_session.proofs.Frames.{position_stands, stands_less, count_placed, place_at, places_given, given_whole}
use Rattle.fd_session.proofs.Showing.{shows_there}

-- ---- one owner

-- where it stands
pub near_at : (table : Table) (k : ℕ) (o : Shown) → k ≤ length table.events → Stands false table k o → StandsNear table k o
near_at table k o within stands = record {
  at = k;
  stands = stands;
  within = within;
  alike = record { on = λ j low high. absurd (omega (arith, low, high)); back = λ j low high. absurd (omega (arith, low, high)) };
}

pub position_near : (table : Table) (k : ℕ) (o : Shown) (n : StandsNear table k o) → position o.history ≡ n.at
position_near table k o n = position_stands false table n.at o n.stands

-- at a later position, past events that write nothing on its tile
pub near_further : (table : Table) (from to k : ℕ) (o : Shown) → from ≤ k → k ≤ to → AreUntouched table from to o.place → StandsNear table from o
    → StandsNear table k o
near_further table from to k o on most untouched n = record {
  at = n.at;
  stands = n.stands;
  within = n.within;
  alike = record {
    on = λ j low high. elim (cases_lt j from) [
      | inl before ↦ n.alike.on j low before
      | inr past ↦ untouched j past (omega (arith, high, most))
    ];
    back = λ j low high. n.alike.back j (omega (arith, low, on)) high;
  };
}

-- the same of the owner of tile n
pub near_beside : (table : Table) (from to k n : ℕ) (o : Shown) → o.place ≡ place_of (size_of table) n → from ≤ k → k ≤ to
    → (IsInside (place_of (size_of table) n) table → AreUntouched table from to (place_of (size_of table) n)) → StandsNear table from o → StandsNear table k o
near_beside table from to k n o placed on most untouched near =
    near_further table from to k o on most
    (subst (λ (p : Place). AreUntouched table from to p) (sym placed) (untouched (subst (λ (p : Place). IsInside p table) placed near.stands.inside))) near

-- before the last of them, which writes nothing on its tile
pub near_less : (table : Table) (k : ℕ) (o : Shown) → IsUntouched table k o.place → StandsNear table (suc k) o → StandsNear table k o
near_less table k o here n = record {
  at = n.at;
  stands = n.stands;
  within = n.within;
  alike = record {
    on = λ j low high. n.alike.on j low (omega (arith, high));
    back = λ j low high. elim (cases_lt k j) [
      | inl past ↦ n.alike.back j (omega (arith, past)) high
      | inr there ↦ let same : k ≡ j = omega (arith, there, low) in subst (λ (i : ℕ). IsUntouched table i o.place) same here
    ];
  };
}

-- at an earlier position where it doesn't stand above that
pub near_down : (table : Table) (k to : ℕ) (o : Shown) → to ≤ k → (n : StandsNear table k o) → n.at ≤ to → StandsNear table to o
near_down table k to o le n below = record {
  at = n.at;
  stands = n.stands;
  within = n.within;
  alike = record {
    on = λ j low high. n.alike.on j low (omega (arith, high, le));
    back = λ j low high. absurd (omega (arith, low, high, below));
  };
}

-- and where it goes back to it
pub near_back : (table : Table) (k to : ℕ) (o p : Shown) → to ≤ k → (n : StandsNear table k o) → to ≤ n.at → p ≡ gone_back_to to o → StandsNear table to p
near_back table k to o p le n above gone = near_at table to p (omega (arith, above, n.within))
    (stands_less false table n.at to o p above (λ t. absurd (cc)) n.stands gone)

-- what it shows
pub near_shows : (table : Table) (k : ℕ) (o : Shown) → StandsNear table k o → ShowsAt table k o
near_shows table k o n =
    shows_there false table n.at o n.stands
    ∙ last_drawn table o.place n.at
    ∙ over_place_same o.place (λ x y. pixel_at table n.at x y) (λ x y. pixel_at table k x y)
    (λ x y held. pixel_alike table o.place x y n.at k held n.alike)
    ∙ sym (last_drawn table o.place k)

pub all_near_show : (table : Table) (k : ℕ) (owners : List Shown) → All (StandsNear table k) owners → All (ShowsAt table k) owners
all_near_show table k owners near n d below = near_shows table k (get_or owners n d) (near n d below)

pub untrue : (b : Bool) → (IsTrue b → ⊥) → b ≡ false
untrue false never = refl
untrue true never = absurd (never refl)

either : (a b : Bool) → b ≡ true → (a || b) ≡ true
either true b is = refl
either false b is = is

-- what a box misses, those that it holds miss
module _ (all a b : Bounds) (both : HoldsBoth all a b) (place : Place) (misses : Misses all place) where
  pub missed_first : Misses a place
  missed_first x y held = untrue (is_within a x y) (λ within.
      let here : is_within all x y ≡ true = both x y (ap (λ (t : Bool). t || is_within b x y) within) in
      absurd (cc (here, misses x y held)))

  pub missed_second : Misses b place
  missed_second x y held = untrue (is_within b x y) (λ within.
      let here : is_within all x y ≡ true = both x y (either (is_within a x y) (is_within b x y) within) in
      absurd (cc (here, misses x y held)))

within_of : (box : Bounds) (x y : ℕ) → IsTrue (is_within box x y) → ((box.left ≤ x) × (x < box.right)) × ((box.top ≤ y) × (y < box.bottom))
within_of box x y within = grind (arith, nat_tests)

-- ---- the tiles that a box meets, in the order of their numbers: tile n is one of them

module _ (columns from n left right top bottom : ℕ) (some : 0 < columns) (across : (left ≤ n % columns) × (n % columns < right))
    (down : (top ≤ n / columns) × (n / columns < bottom)) where
  here : n / columns * columns + n % columns ≡ n
  here = div-add-mod' n columns

  pub not_above : top * columns ≤ n
  not_above = let rows : top * columns ≤ n / columns * columns = mul-le top columns (n / columns) columns down.0 (omega arith) in omega (arith, rows, here)

  pub not_below : n < bottom * columns
  not_below =
      let rows : n / columns * columns + columns ≤ bottom * columns = row_fits (n / columns) columns bottom columns down.1 (omega arith) in
      omega (arith, rows, here, mod_below n columns some)

  -- nor past the last one
  pub not_past : n < (bottom - 1) * columns + right
  not_past =
      let rows : n / columns * columns ≤ (bottom - 1) * columns = mul-le (n / columns) columns (bottom - 1) columns (omega (arith, down.1)) (omega arith) in
      omega (arith, rows, here, across.1)

  there : from / columns * columns + from % columns ≡ from
  there = div-add-mod' from columns

  row_from : from ≤ n → from / columns ≤ n / columns
  row_from on = le-div (from / columns) n columns some (omega (arith, there, on))

  in_row : from ≤ n → from - from % columns + max (from % columns) left ≤ n
  in_row on = elim (cases_lt (from / columns) (n / columns)) [
    | inl above ↦
        let rows : from / columns * columns + columns ≤ n / columns * columns = row_fits (from / columns) columns (n / columns) columns above (omega arith) in
        omega (arith, rows, here, there, across.0, mod_below from columns some, mod_below n columns some)
    | inr le ↦
        let same : n / columns ≡ from / columns = omega (arith, le, row_from on) in
        let rows : n / columns * columns ≡ from / columns * columns = ap (λ (k : ℕ). k * columns) same in
        omega (arith, rows, here, there, on, across.0)
  ]

  -- where those of its row are passed
  past_row : from ≤ n → right ≤ max (from % columns) left → from - from % columns + columns + left ≤ n
  past_row on passed = elim (cases_lt (from / columns) (n / columns)) [
    | inl above ↦
        let rows : from / columns * columns + columns ≤ n / columns * columns = row_fits (from / columns) columns (n / columns) columns above (omega arith) in
        omega (arith, rows, here, there, across.0)
    | inr le ↦
        let same : n / columns ≡ from / columns = omega (arith, le, row_from on) in
        let rows : n / columns * columns ≡ from / columns * columns = ap (λ (k : ℕ). k * columns) same in
        absurd (omega (arith, rows, here, there, on, across.0, across.1, passed))
  ]

  -- so the first of them from there on isn't past it
  pub found_low : (column found : ℕ) → from ≤ n → column ≡ max (from % columns) left
      → ((column < right) × (found ≡ from - from % columns + column)) ⊎ ((right ≤ column) × (found ≡ from - from % columns + columns + left)) → found ≤ n
  found_low column found on at (inl here) = omega (arith, at, here.1, in_row on)
  found_low column found on at (inr next) = omega (arith, next.1, past_row on (omega (arith, at, next.0)))

-- a pixel of a tile that a box holds: by columns and rows of tiles
pub met_by : (size : TargetSize) (box : Bounds) (n x y : ℕ) → Holds (place_of size n) x y → IsTrue (is_within box x y)
    → ((box.left / 32 ≤ n % columns_of size) × (n % columns_of size < (box.right + 31) / 32))
    × ((box.top / 32 ≤ n / columns_of size) × (n / columns_of size < (box.bottom + 31) / 32))
met_by size box n x y held within =
    let in_box = within_of box x y within in (
      (omega (arith, held.from_left, held.to_right, in_box.0.0), omega (arith, held.from_left, held.to_right, in_box.0.1)),
      (omega (arith, held.from_top, held.to_bottom, in_box.1.0), omega (arith, held.from_top, held.to_bottom, in_box.1.1)),
    )

-- so no tile that the box meets comes before the first one that is found, from where on it was looked for
pub found_first : (size : TargetSize) (box : Bounds) (n x y from start column found : ℕ) → 0 < columns_of size → Holds (place_of size n) x y
    → IsTrue (is_within box x y) → from ≤ n → start ≡ max from (box.top / 32 * columns_of size)
    → column ≡ max (start % columns_of size) (box.left / 32)
    → ((column < (box.right + 31) / 32) × (found ≡ start - start % columns_of size + column))
    ⊎ (((box.right + 31) / 32 ≤ column) × (found ≡ start - start % columns_of size + columns_of size + box.left / 32))
    → found ≤ n
found_first size box n x y from start column found some held within on starts at is =
    let columns = columns_of size in
    let met = met_by size box n x y held within in
    let above = not_above columns start n (box.left / 32) ((box.right + 31) / 32) (box.top / 32) ((box.bottom + 31) / 32) some met.0 met.1 in
    found_low columns start n (box.left / 32) ((box.right + 31) / 32) (box.top / 32) ((box.bottom + 31) / 32) some met.0 met.1 column found
    (omega (arith, starts, on, above)) at is

-- a tile of the target is a place
pub tile_placed : (table : Table) (n : ℕ) → IsTable table → n < tile_count (size_of table) → IsTilePlace (place_of (size_of table) n)
tile_placed table n valid below =
    let columns : ℕ = columns_of (size_of table) in
    let some : 0 < columns = omega (arith, valid.min_width) in
    let column : n % columns < columns = mod_below n columns some in
    let row : n / columns < rows_of_tiles (size_of table) = (row-Below n columns columns (rows_of_tiles (size_of table)) below (omega arith)).1 in
    record {
      wide = omega (arith, column);
      at_most_wide = omega arith;
      high = omega (arith, row);
      at_most_high = omega arith;
      right = omega (arith, column, valid.max_width);
      bottom = omega (arith, row, valid.max_height);
    }

-- ---- one owner that is taken
pub brought_on : (table : Table) (to : ℕ) (o p : Shown) (n : StandsNear table to o) → n.at ≤ to → p ≡ gone_on_to table to o → Stands false table to p
brought_on table to o p n on gone = record {
  history = cc (gone, n.stands.history, extend_to_on table o.place n.at to (fresh_history o.place) (omega arith) on);
  inside = subst (λ (q : Place). IsInside q table) (sym (ap (λ (s : Shown). s.place) gone)) n.stands.inside;
}

pub brought_back : (table : Table) (to : ℕ) (o p : Shown) (n : StandsNear table to o) → to ≤ n.at → p ≡ gone_back_to to o → Stands false table to p
brought_back table to o p n back gone = stands_less false table n.at to o p back (λ t. absurd (cc)) n.stands gone

-- ---- an event of this number, whose box is known

module _ (table : Table) (number : ℕ) (first : 1 ≤ number) (last : number ≤ length table.events) where
  is : number ≡ suc (number - 1)
  is = omega (arith, first)

  pub missed_place : (box : Bounds) → option_map (reach_of table.width table.height) (event_at table number) ≡ Some box → (place : Place) → IsTilePlace place
      → IsInside place table → Misses box place → IsUntouched table (number - 1) place
  missed_place box reach place tile inside misses =
      untouched_missed table place box misses tile inside (number - 1)
      (subst (λ (k : ℕ). option_map (reach_of table.width table.height) (event_at table k) ≡ Some box) is reach)

  -- before it where it writes nothing on the tile
  pub before_missed : (o : Shown) → IsUntouched table (number - 1) o.place → StandsNear table number o → StandsNear table (number - 1) o
  before_missed o here n = near_less table (number - 1) o here (subst (λ (k : ℕ). StandsNear table k o) is n)

  module _ (box : Bounds) (reach : option_map (reach_of table.width table.height) (event_at table number) ≡ Some box) (valid : IsTable table)
      (owners : List Shown) (places : places_of owners ≡ first_places (size_of table) (tile_count (size_of table))) (n : ℕ) (d : Shown)
      (within : n < length owners) (misses : Misses box (place_of (size_of table) n)) where
    at_place : (get_or owners n d).place ≡ place_of (size_of table) n
    at_place = place_at (size_of table) owners places n d (omega (arith, within, count_placed (size_of table) owners places))

    pub tile_missed : IsInside (get_or owners n d).place table → IsUntouched table (number - 1) (get_or owners n d).place
    tile_missed inside =
        missed_place box reach (get_or owners n d).place
        (subst IsTilePlace (sym at_place) (tile_placed table n valid (omega (arith, within, count_placed (size_of table) owners places)))) inside
        (subst (Misses box) (sym at_place) misses)

    pub passed_back : StandsNear table number (get_or owners n d) → StandsNear table (number - 1) (get_or owners n d)
    passed_back near = before_missed (get_or owners n d) (tile_missed near.stands.inside) near

-- there are not many
pub few_tiles : (table : Table) → IsTable table → tile_count (size_of table) ≤ 262144
few_tiles table valid =
    let columns : columns_of (size_of table) ≤ 512 = omega (arith, valid.max_width) in
    let rows : rows_of_tiles (size_of table) ≤ 512 = omega (arith, valid.max_height) in
    mul-le (columns_of (size_of table)) (rows_of_tiles (size_of table)) 512 512 columns rows

-- an owner that stays on its tile takes the place of what it was
pub places_set : (owners : List Shown) (n : ℕ) (d p : Shown) → p.place ≡ (get_or owners n d).place → places_of (set owners n p) ≡ places_of owners
places_set owners n d p placed = map-set_same (λ (s : Shown). s.place) owners n p d placed

-- ---- some of the owners
module _ (P Q : Shown → Type 0) (a b : ℕ) (owners : List Shown) (m : ℕ) (o : Shown) (from : a ≤ m) (below : m < b) (within : m < length owners)
    (done : Q o) (skipped : (n : ℕ) (d : Shown) → a ≤ n → n < m → n < length owners → P (get_or owners n d) → Q (get_or owners n d)) where
  -- one more is done, and those before it that needn't be
  pub between_next : Between P Q a b owners → Between P Q (m + 1) b (set owners m o)
  between_next s = record {
    ahead = λ n d low high inside.
        let other : n ≢ m = λ e. absurd (omega (arith, e, low)) in
        rw (get_or-set_other owners m n o d other) (s.ahead n d (omega (arith, low, from)) high (omega (arith, inside, length-set owners m o)));
    before = λ n d low inside. at n d low (omega (arith, inside, length-set owners m o)) (cases_lt n m);
    past = λ n d high inside.
        let other : n ≢ m = λ e. absurd (omega (arith, e, high, below)) in
        rw (get_or-set_other owners m n o d other) (s.past n d high (omega (arith, inside, length-set owners m o)));
  }
    where
      at : (n : ℕ) (d : Shown) → n < m + 1 → n < length owners → (n < m) ⊎ (m ≤ n) → Q (get_or (set owners m o) n d)
      at n d low inside (inr there) = let same : n ≡ m = omega (arith, low, there) in rw (same, get_or-set_same owners m o d within) done
      at n d low inside (inl before) =
          let other : n ≢ m = λ e. absurd (omega (arith, e, before)) in
          rw (get_or-set_other owners m n o d other) (elim (cases_lt n a) [
            | inl first ↦ s.before n d first inside
            | inr later ↦ skipped n d later before inside (s.ahead n d later (omega (arith, before, below)) inside)
          ])

-- all are done once none is left
pub between_end : (P Q : Shown → Type 0) (a b : ℕ) (owners : List Shown) → Between P Q a b owners
    → ((n : ℕ) (d : Shown) → a ≤ n → n < b → n < length owners → P (get_or owners n d) → Q (get_or owners n d)) → All Q owners
between_end P Q a b owners s skipped n d within = elim (cases_lt n a) [
  | inl before ↦ s.before n d before within
  | inr from ↦ elim (cases_lt n b) [
    | inl below ↦ skipped n d from below within (s.ahead n d from below within)
    | inr past ↦ s.past n d past within
  ]
]

-- ---- those of some numbers, one after the other

module _ (first count : ℕ) (owners : List Shown) where
  pub part_of : (P : Shown → Type 0) → All P owners → All P (take count (drop first owners))
  part_of P all n d below =
      let some : n < min count (length owners - first) = omega (arith, below, length-take count (drop first owners), length-drop first owners) in
      rw (get_or-take count (drop first owners) n d (omega (arith, some)), get_or-drop first owners n d) (all (first + n) d (omega (arith, some)))

  -- they are left so, and the others stay
  pub parts_left : (Q : Shown → Type 0) (new : List Shown) → first + count ≤ length owners → IsLeft Q (take count (drop first owners)) new
      → ((n : ℕ) (d : Shown) → n < length owners → (n < first) ⊎ (first + count ≤ n) → Q (get_or owners n d))
      → IsLeft Q owners (take first owners ++ (new ++ drop count (drop first owners)))
  parts_left Q new within left others = record {
    places =
        map-append place (take first owners) (new ++ drop count (drop first owners))
        ∙ ap (λ (l : List Place). places_of (take first owners) ++ l)
        (map-append place new (drop count (drop first owners))
        ∙ ap (λ (l : List Place). l ++ places_of (drop count (drop first owners))) left.places
        ∙ sym (map-append place (take count (drop first owners)) (drop count (drop first owners)))
        ∙ ap places_of (take-append-drop count (drop first owners)))
        ∙ sym (map-append place (take first owners) (drop first owners))
        ∙ ap places_of (take-append-drop first owners);
    each = All-append Q (take first owners) (new ++ drop count (drop first owners)) before (All-append Q new (drop count (drop first owners)) left.each past);
  }
    where
      place : Shown → Place
      place s = s.place

      before : All Q (take first owners)
      before n d below =
          let some : n < first = omega (arith, below, length-take-le first owners (omega (arith, within))) in
          rw (get_or-take first owners n d some) (others n d (omega (arith, some, within)) (inl some))

      past : All Q (drop count (drop first owners))
      past n d below =
          let some : first + (count + n) < length owners = omega (
            arith,
            below,
            length-drop count (drop first owners),
            length-drop first owners,
          ) in
          rw (get_or-drop count (drop first owners) n d, get_or-drop first owners (count + n) d) (others (first + (count + n)) d some (inr (omega arith)))

-- ---- all owners

pub near_held : (table : Table) (size : TargetSize) (owners : List Shown) (k : ℕ) → HoldsAll false table size owners → opening_position owners ≡ k
    → HoldsNear table size k owners
near_held table size owners k held at = record {
  valid = held.valid;
  sized = held.sized;
  places = held.places;
  stand = subst (λ (j : ℕ). All (StandsNear table j) owners) at (λ n d below. near_at table (opening_position owners) (get_or owners n d) held.reached
      (held.stand n d below));
  reached = omega (arith, held.reached, at);
}

-- owners that were lent, and given back at a position
pub near_back_at : (table : Table) (size : TargetSize) (j k : ℕ) (old lent new : List Shown) (n : ℕ) → HoldsNear table size j old → lent ≡ old → n ≡ length old
    → IsLeft (StandsNear table k) lent new → k ≤ length table.events → HoldsNear table size k (take n (new ++ drop (length new) old))
near_back_at table size j k old lent new n held is all left within =
    subst (HoldsNear table size k) (sym (given_whole size old lent new n is all held.places left.places)) (record {
      valid = held.valid;
      sized = held.sized;
      places = places_given size old lent new n is all held.places left.places;
      stand = left.each;
      reached = within;
    })
