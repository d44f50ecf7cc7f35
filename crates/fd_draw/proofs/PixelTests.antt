-- A triangle with the depth test on: of each row the pixels that pass, in runs.
use Rattle.std.proofs.Common.{◌≡◌, ℕ, ◌+◌, ◌-◌, ◌<◌, ◌≤◌, Bool, true, false, cond, eqb, List, ◌++◌, length, get_or, map, refl, sym, ap}
use Rattle.std.proofs.Common.{◌∙◌, arith, inl, inr, ◌⊎◌, ◌/◌, ◌%◌, ◌^◌}
use Rattle.std.specs.List.{range_with_len}
use Rattle.std.proofs.lemmas.List.{get_or_append_left}
use Rattle.std.proofs.lemmas.List.FromFn.{get_or-map-range_with_len, length-map-range_with_len}
use Rattle.std.specs.Prelude.{Option, Some, None, not, ◌&&◌}
use Rattle.std.proofs.lemmas.Bool.{eq-eqb, ne_eqb, cases_eq}
use Rattle.std.proofs.lemmas.Bool.Decides.{nat_tests}
use Rattle.std.proofs.lemmas.Nat.{pow-add}
use Rattle.std.proofs.Math.Nat.{div-div-eq-div-mul}
use Rattle.fd_blend.specs.declared.channel.Colour.{Colour}
use Rattle.fd_blend.specs.Channel.{fresh}
use Rattle.fd_cover.specs.declared.triangle.Tri.{Tri}
use Rattle.fd_cover.specs.Covers.{covers}
use Rattle.fd_cover.specs.Depth.{depth_at, passes}
use Rattle.fd_events.specs.declared.pipeline.Pipeline.{Pipeline}
use Rattle.fd_events.specs.Draw.{Triangle}
use Rattle.fd_events.specs.Image.{is_discarded, is_drawn, depth_of as source_depth}
use Rattle.fd_tile.specs.Place.{Holds, HasRow}
use Rattle.fd_tile.specs.Tile.{Pixel, TileImage, IsTileImage}
use Rattle.fd_tile.specs.Tile.{with_row, with_row_left, row_of}
use Rattle.fd_tile.specs.Tile.{colour_in, depth_in, pixel_of}
use Rattle.fd_tile.proofs.Pixels.{row_in-same, row_in-other}
use Rattle.fd_tile.proofs.Pixels.{length-row_of, with_row_left_is, IsTileImage-with_row}
use borrow.Rule.Slice.PartMut.{put_mid}
use Rattle.fd_undo.specs.Undo.{Undo}
use Rattle.fd_tile.specs.declared.place.Place.{Place}
use Rattle.fd_events.specs.Picture.{Painting, is_on}
use Rattle.fd_draw.specs.Demand.{is_reached, is_tested, pixels_in}
use Rattle.fd_draw.proofs.Counts.{pixels_in-row, written_in_row-span}
use Rattle.fd_events.specs.declared.effect.Clear.{Clear}
use Rattle.fd_events.specs.declared.effect.Clear.TheVariants.{Colours, Depths}
use Rattle.fd_draw.specs.Written.{as_it_is, cleared, with_cleared}
use Rattle.fd_tile.proofs.Cut.{FillsPlace-flat}
use Rattle.fd_undo.proofs.Pixelwise.{value_in-flat}
use Rattle.fd_draw.specs.declared.primitive.Primitive.{Primitive}
use Rattle.fd_draw.specs.Primitive.{DrawsAll, IsReady, ReachesRun, blended_by, kept_of, painted_by, picture_of, reached_by, triangle_of}
use Rattle.fd_draw.specs.Mask.{has_bit}
use Rattle.fd_draw.specs.declared.run.Run.{Run}
use Rattle.fd_draw.specs.Run.{EachColumn, ends_of}
use Rattle.fd_draw.specs.Paints.{Paints}
use Rattle.fd_draw.specs.Row.{changed_row}
use Rattle.fd_draw.specs.Span.{IsRowSpan}
use Rattle.fd_draw.specs.Writing.{ChangesRun, HasRun, keep_each, columns_between, in_row, in_run}
use Rattle.fd_draw.proofs.Areas.{drawn_reached}
use Rattle.fd_draw.proofs.Rows.{length-changed_row, get_or-changed_row, length-put_mid, before_part, in_part, past_part}
use Rattle.fd_draw.proofs.Painting.{part, part_len, part_at, PaintsIn, Paints-same, Paints-nothing, Paints-both}

pub cond_at : {X : Type 0} (b : Bool) (p q other : X) → (b ≡ true → p ≡ q) → cond b p other ≡ cond b q other
cond_at true p q other same = same refl
cond_at false p q other same = refl

-- ---- neighbouring pixels of a row that a triangle reaches

run_columns : (run : Run) (c r : ℕ) → in_run run c r ≡ true → (run.left ≤ c) × (c < run.right) × (r ≡ run.y)
run_columns run c r is = grind (arith, nat_tests)

-- they all fail
pub Paints-failed : (p : Primitive) (run : Run) {t : TileImage} {u : Undo} → IsTileImage t → u.frame_left ≡ false
    → EachColumn run (λ c. is_drawn (triangle_of p) p.state c run.y (depth_in t c run.y) ≡ false) → PaintsIn (in_run run) (painted_by p) (kept_of p) t u t u
Paints-failed p run {t} filled begun failed = Paints-same
    (λ c r held. let fails = undrawn c r in grind (arith, fails)) (λ c r held. let fails = undrawn c r in grind (arith, fails)) (Paints-nothing filled begun)
  where
    undrawn : (c r : ℕ) → in_run run c r ≡ true → is_drawn (triangle_of p) p.state c r (depth_in t c r) ≡ false
    undrawn c r here = let at = run_columns run c r here in rw at.2 (failed c at.0 at.1)

-- ---- values that are put in a row

pair_first : (b : Bool) (p : Pixel) (c e : Colour) → c ≡ cond b e p.0 → (c, p.1) ≡ cond b (e, p.1) p
pair_first b p c e is = grind arith

module _ {run : Run} {k : ℕ} {t : TileImage} (is : HasRun run t.place) (filled : IsTileImage t) (count : k ≡ run.right - run.left)
    (values : List Colour) (size : length values ≡ k) where
  wide : length (row_of t run.y) ≡ t.place.width
  wide = length-row_of t run.y filled is.crossed

  abbrev put_row : List Colour
  put_row = put_mid (run.left - t.place.left) k (row_of t run.y) values

  room : run.left - t.place.left + k ≤ length (row_of t run.y)
  room = omega (arith, wide, count, is.from_left, is.some, is.to_right)

  put_size : length put_row ≡ t.place.width
  put_size = length-put_mid (run.left - t.place.left) k (row_of t run.y) values room size ∙ wide

  -- what the row has for column c
  put_at : (c : ℕ) → t.place.left ≤ c → (c < run.left) ⊎ (run.left ≤ c) → (c < run.right) ⊎ (run.right ≤ c)
      → get_or put_row (c - t.place.left) fresh ≡ cond (columns_between run.left run.right c run.y) (get_or values (c - run.left) fresh) (colour_in t c run.y)
  put_at c held (inl low) high = grind (arith, before_part, room)
  put_at c held (inr low) (inl high) = grind (arith, in_part, room)
  put_at c held (inr low) (inr high) = grind (arith, past_part, room)

  value_put : (c r : ℕ) → Holds t.place c r → (r ≡ run.y) ⊎ (r ≡ run.y → ⊥) → colour_in (with_row t run.y put_row) c r
      ≡ cond (in_run run c r) (get_or values (c - run.left) fresh) (colour_in t c r)
  value_put c r held (inr apart) = grind (arith, ne_eqb, row_in-other)
  value_put c r held (inl same) = grind (arith, eq-eqb, row_in-same, put_at)

-- as the code goes
pub Blends-code : {t : TileImage} {run : Run} (change : ℕ → ℕ → Colour → Colour) {p : Place} {lent new : List Colour} → HasRun run t.place → IsTileImage t
    → p ≡ t.place → lent ≡ row_of t run.y → new ≡ changed_row (λ column before. change column run.y before) run.left (part run p lent)
    → ChangesRun (λ c r before. (change c r before.0, before.1)) run t
    (with_row_left t run.y (put_mid (run.left - p.left) (run.right - p.left - (run.left - p.left)) lent new))
Blends-code {t} {run} change is filled read is_lent is_new =
    let old : List Colour = part run t.place (row_of t run.y) in
    let long : length old ≡ run.right - run.left = part_len refl is (row_of t run.y) (length-row_of t run.y filled is.crossed) in
    let values : List Colour = changed_row (λ column before. change column run.y before) run.left old in
    let given : (c r : ℕ) → in_run run c r ≡ true → get_or values (c - run.left) fresh ≡ change c r (colour_in t c r) =
    λ c r here. let at = run_columns run c r here in
    let column : run.left + (c - run.left) ≡ c = omega (arith, at.0) in
    rw at.2 (get_or-changed_row (λ column before. change column run.y before) run.left old (c - run.left) fresh (omega (arith, long, at.0, at.1))
    ∙ rw (column, part_at refl is (row_of t run.y) fresh c at.0 at.1) refl) in
    let count : run.right - t.place.left - (run.left - t.place.left) ≡ run.right - run.left = omega (arith, is.from_left, is.some) in
    let size = length-changed_row (λ column before. change column run.y before) run.left old ∙ long ∙ sym count in
    let put : List Colour = put_row is filled count values size in
    let put_long = put_size is filled count values size in
    rw (is_new, is_lent, read, with_row_left_is t run.y filled is.crossed put put_long) (record {
      placed = refl {a = t.place};
      made = refl {a = t.made};
      deep = refl {a = t.deep};
      filled = IsTileImage-with_row t run.y filled is.crossed put put_long;
      pixels = λ c r held. pair_first (in_run run c r) (pixel_of t c r) _ (change c r (colour_in t c r))
          (value_put is filled count values size c r held (cases_eq r run.y) ∙ cond_at (in_run run c r) _ _ _ (given c r));
    })

-- ---- which pixels of a row pass

-- the depths of neighbouring pixels, one by one, in front of others
pub depths_at : (corners : Tri) (depths : List ℕ) (left y n : ℕ) (out rest : List ℕ)
    → out ≡ map (λ column. depth_at corners depths column y) (range_with_len left n)
    → (column d : ℕ) → left ≤ column → column < left + n → get_or (out ++ rest) (column - left) d ≡ depth_at corners depths column y
depths_at corners depths left y n out rest is column d low high = grind (arith, length-map-range_with_len, get_or_append_left, get_or-map-range_with_len)

-- a pixel that is reached is drawn as its test says
pub drawn_as_tested : (tri : Triangle) (s : Pipeline) (x y source stored : ℕ) (passed : Bool)
    → passed ≡ (passes s.depth source stored && not (is_discarded tri.picture x y))
    → (s.depth.enable ≡ true → source ≡ source_depth tri x y) → is_reached tri s x y ≡ true
    → passed ≡ is_drawn tri s x y stored
drawn_as_tested tri s x y source stored passed is same reached =
    is ∙ ap (λ b. b && not (is_discarded tri.picture x y)) (by_test s.depth.enable refl)
    ∙ sym (drawn_reached tri s x y stored ∙ rw reached refl)
  where
    by_test : (b : Bool) → s.depth.enable ≡ b → passes s.depth source stored ≡ passes s.depth (source_depth tri x y) stored
    by_test true on = ap (λ d. passes s.depth d stored) (same on)
    by_test false off = rw off refl

-- ---- run after run

-- so many pixels of a run, behind its first ones
abbrev pub front : Run → ℕ → Run
front run count = record { left = run.left; right = run.left + count; y = run.y }

abbrev pub behind : Run → ℕ → ℕ → Run
behind run done count = record { left = run.left + done; right = run.left + done + count; y = run.y }

-- the first ones are done
abbrev pub IsFrontDrawn : Primitive → Run → ℕ → TileImage → Undo → TileImage → Undo → Type 0
IsFrontDrawn p run done = PaintsIn (in_run (front run done)) (painted_by p) (kept_of p)

module _ (p : Primitive) (run : Run) (done count : ℕ) {t t' : TileImage} {u u' : Undo} (painted : IsFrontDrawn p run done t u t' u') where
  -- behind them the depths are as they were, and some in turn are drawn or not as the first of them
  module _ (passed : ℕ) (is : HasRun run t.place) (within : done + count ≤ run.right - run.left)
      (tests : EachColumn run (λ x. has_bit passed (x - run.left) ≡ is_drawn (triangle_of p) p.state x run.y (depth_in t x run.y)))
      (alike : (k : ℕ) → k < count → has_bit (passed / 2 ^ done) k ≡ has_bit (passed / 2 ^ done) 0) where
    as_before : EachColumn (behind run done count) (λ x. pixel_of t' x run.y ≡ pixel_of t x run.y)
    as_before x low high = grind arith

    rest_at : (k : ℕ) → has_bit (passed / 2 ^ done) k ≡ has_bit passed (done + k)
    rest_at k = ap (λ n. eqb (n % 2) 1) (div-div-eq-div-mul passed (2 ^ done) (2 ^ k) ∙ ap (λ m. passed / m) (sym (pow-add 2 done k)))

    pub drawn_alike : EachColumn (behind run done count)
        (λ x. is_drawn (triangle_of p) p.state x run.y (depth_in t' x run.y) ≡ has_bit (passed / 2 ^ done) 0)
    drawn_alike x low high =
        let place : done + (x - (run.left + done)) ≡ x - run.left = omega arith in
        ap (λ (b : Pixel). is_drawn (triangle_of p) p.state x run.y b.1) (as_before x low high)
        ∙ cc (tests x (omega arith) (omega arith), rest_at (x - (run.left + done)), alike (x - (run.left + done)) (omega arith), place)

  pub Paints-next : {t'' : TileImage} {u'' : Undo} → PaintsIn (in_run (behind run done count)) (painted_by p) (kept_of p) t' u' t'' u''
      → IsFrontDrawn p run (done + count) t u t'' u''
  Paints-next =
      Paints-both (painted_by p) (kept_of p) (in_run (front run done)) (in_run (behind run done count)) (in_run (front run (done + count)))
      (λ c r. grind (arith, nat_tests)) (λ c r. grind (arith, nat_tests)) painted

-- ---- the pixels of a row's span

module _ (written : ℕ → ℕ → Bool) {p : Place} {y : ℕ} (run : Run) (crossed : HasRow p y)
    (span : IsRowSpan (λ x. written x y) p.left (p.left + p.width) (Some (ends_of run))) where
  pub row_count : pixels_in (in_row written y) p ≡ run.right - run.left
  row_count = pixels_in-row written p y crossed ∙ written_in_row-span written p y run.left run.right span

  pub Paints-row_done : (paint : ℕ → ℕ → Pixel → Pixel) (keep : ℕ → ℕ → Pixel → List Pixel) {t t' : TileImage} {u u' : Undo} → run.y ≡ y → t.place ≡ p
      → PaintsIn (in_run run) paint keep t u t' u' → PaintsIn (in_row written y) paint keep t u t' u'
  Paints-row_done paint keep same placed = grind arith

-- ---- with the depth test off

-- its picture lies where it is reached
pub reached_on : (p : Primitive) (x y : ℕ) → reached_by p x y ≡ true → is_on (picture_of p) x y ≡ true
reached_on p x y reached = second (covers p.corners x y) (is_on (picture_of p) x y) _ reached
  where
    second : (a b c : Bool) → ((a && b) && c) ≡ true → b ≡ true
    second true true c is = refl
    second true false c is = absurd (cc)
    second false b c is = absurd (cc)

-- where it isn't tested, it is drawn at all that it reaches
pub draws_all : (p : Primitive) (run : Run) → IsReady p → p.tested ≡ false → ReachesRun p run → DrawsAll p run
draws_all p run ready untested reached = record {
  untested = depth_off (picture_of p) (sym ready.tested ∙ untested);
  filled = λ column low high. ready.filled untested column run.y (reached_on p column run.y (reached column low high));
}
  where
    depth_off : (picture : Option Painting) → is_tested p.state picture ≡ false → p.state.depth.enable ≡ false
    depth_off None off = off
    depth_off (Some picture) off = grind arith

-- a triangle that isn't discarded is drawn wherever it is reached, and leaves the depth
pub Paints-untested : (p : Primitive) (run : Run) {t t' : TileImage} {u u' : Undo} → DrawsAll p run
    → EachColumn run (λ c. reached_by p c run.y ≡ true)
    → PaintsIn (in_run run) (blended_by p) keep_each t u t' u' → PaintsIn (in_run run) (painted_by p) (kept_of p) t u t' u'
Paints-untested p run {t} all reached = Paints-same
    (λ c r held. cond_at (in_run run c r) _ _ _ (λ here. rw (drawn c r here, all.untested) refl))
    (λ c r held. cond_at (in_run run c r) _ _ _ (λ here. rw (drawn c r here) refl))
  where
    drawn : (c r : ℕ) → in_run run c r ≡ true → is_drawn (triangle_of p) p.state c r (depth_in t c r) ≡ true
    drawn c r here = let at = run_columns run c r here in
        drawn_reached (triangle_of p) p.state c r (depth_in t c r)
        ∙ rw (at.2, reached c at.0 at.1, all.untested, all.filled c at.0 at.1) refl

-- where it is drawn and stores no depth, it leaves the depth too
pub Paints-shallow : (p : Primitive) (run : Run) {t t' : TileImage} {u u' : Undo}
    → EachColumn run (λ c. is_drawn (triangle_of p) p.state c run.y (depth_in t c run.y) ≡ true)
    → (p.state.depth.enable && p.state.depth.write) ≡ false
    → PaintsIn (in_run run) (blended_by p) keep_each t u t' u' → PaintsIn (in_run run) (painted_by p) (kept_of p) t u t' u'
Paints-shallow p run {t} drawn off = Paints-same
    (λ c r held. cond_at (in_run run c r) _ _ _ (λ here. rw (drawn_at c r here, off) refl))
    (λ c r held. cond_at (in_run run c r) _ _ _ (λ here. rw (drawn_at c r here) refl))
  where
    drawn_at : (c r : ℕ) → in_run run c r ≡ true → is_drawn (triangle_of p) p.state c r (depth_in t c r) ≡ true
    drawn_at c r here = let at = run_columns run c r here in rw at.2 (drawn c at.0 at.1)

-- ---- pixels that are kept

-- all were, and get a clear's colour or depth
pub Paints-filled : (clear : Clear) {t t' : TileImage} {u u' : Undo} → PaintsIn (λ _ _. true) as_it_is keep_each t u t' u'
    → Paints (λ _ _. cleared clear) keep_each t u (with_cleared clear t') u'
Paints-filled (Colours colour) kept = grind (arith, FillsPlace-flat, value_in-flat)
Paints-filled (Depths depth) kept = grind (arith, FillsPlace-flat, value_in-flat)
