-- Drawing, pixel by pixel.
use Rattle.std.proofs.Common.{◌≡◌, ℕ, ◌+◌, ◌-◌, ◌<◌, ◌≤◌, Bool, false, ◌||◌, cond, List, [], ◌++◌, length, get_or, take, drop}
use Rattle.std.proofs.Common.{refl, sym, ap, ◌∙◌, subst, arith, append_assoc, length-drop, inl, inr, ◌⊎◌}
use Rattle.std.specs.Prelude.{◌&&◌, All, Option, nat_lt}
use Rattle.std.specs.List.{zip}
use Rattle.std.proofs.lemmas.Bool.{ne_eqb, cases_lt, cases_eq}
use Rattle.std.proofs.lemmas.Bool.Decides.{nat_tests}
use Rattle.std.proofs.lemmas.List.{append-nil, length_push, length-take, get_or-take, get_or-drop}
use Rattle.std.proofs.lemmas.List.Elements.{All-append}
use Rattle.std.proofs.lemmas.Slice.Zip.{get_or-zip}
use Rattle.fd_blend.specs.declared.channel.Colour.{Colour}
use Rattle.fd_cover.specs.declared.bounds.Bounds.{Bounds}
use Rattle.fd_cover.specs.Bounds.{is_within}
use Rattle.fd_tile.specs.declared.place.Place.{Place}
use Rattle.fd_tile.specs.Place.{Holds}
use Rattle.fd_tile.specs.Tile.{Pixel, fresh_pixel, TileImage, IsTileImage, row_of, depth_row_of, pixel_of}
use Rattle.fd_tile.proofs.Pixels.{length-row_in}
use Rattle.fd_undo.specs.Frame.{KeptPixel, kept_at, kept_row, top, older}
use Rattle.fd_undo.specs.Undo.{Undo, with_kept}
use Rattle.fd_undo.proofs.KeptAt.{kept_at-append, kept_at-other_row, kept_at-before, kept_at-after, kept_at-inside}
use Rattle.fd_undo.proofs.Restored.{kept_row-inside}
use Rattle.fd_undo.proofs.FrameLemmas.{top-push, older-push, length-zip_equal}
use Rattle.fd_draw.specs.Area.{LiesIn, IsWrittenIn}
use Rattle.fd_draw.specs.declared.run.Run.{Run}
use Rattle.fd_draw.specs.Run.{EachColumn}
use Rattle.fd_draw.specs.Writing.{HasRun, after_where, kept_where, keep_each, in_row, in_run}
use Rattle.fd_draw.specs.Paints.{Paints}
use Rattle.fd_draw.specs.Written.{as_it_is}
use Rattle.fd_draw.specs.Span.{IsRowSpan}
use Rattle.fd_draw.proofs.Areas.{outside_row}
use Rattle.fd_draw.proofs.Counts.{and_false}

-- ---- one after another

module _ {A B : ℕ → ℕ → Pixel → Pixel} {R S : ℕ → ℕ → Pixel → List Pixel} {t t' t'' : TileImage} {u u' u'' : Undo} where
  pub Paints-then : Paints A R t u t' u' → Paints B S t' u' t'' u''
      → Paints (λ x y c. B x y (A x y c)) (λ x y c. R x y c ++ S x y (A x y c)) t u t'' u''
  Paints-then first second =
      let onto : (x y : ℕ) → Holds t.place x y → Holds t'.place x y = λ x y held. subst (λ p. Holds p x y) (sym first.placed) held in
      record {
        placed = second.placed ∙ first.placed;
        made = second.made ∙ first.made;
        deep = second.deep ∙ first.deep;
        filled = second.filled;
        below = second.below ∙ first.below;
        begun = second.begun;
        opening = second.opening ∙ first.opening;
        some = λ before. second.some (first.some before);
        pixels = λ x y held. second.pixels x y (onto x y held) ∙ ap (λ c. B x y c) (first.pixels x y held);
        kept = λ x y held. second.kept x y (onto x y held)
            ∙ rw (first.kept x y held, append_assoc, first.pixels x y held) refl;
        inside = λ before.
            subst (λ p. All (λ k. Holds p k.x k.y) (top u''.frames)) first.placed
            (second.inside (subst (λ p. All (λ k. Holds p k.x k.y) (top u'.frames)) (sym first.placed) (first.inside before)));
      }

module _ {A B : ℕ → ℕ → Pixel → Pixel} {R S : ℕ → ℕ → Pixel → List Pixel} {t t' : TileImage} {u u' : Undo} where
  -- the same by other words, where it is said of the pixels that are there
  pub Paints-same : ((x y : ℕ) → Holds t.place x y → A x y (pixel_of t x y) ≡ B x y (pixel_of t x y))
      → ((x y : ℕ) → Holds t.place x y → R x y (pixel_of t x y) ≡ S x y (pixel_of t x y))
      → Paints A R t u t' u' → Paints B S t u t' u'
  Paints-same after kept painted = grind arith

-- nothing is drawn
pub Paints-nothing : {t : TileImage} {u : Undo} → IsTileImage t → u.frame_left ≡ false → Paints (λ x y c. c) (λ x y c. []) t u t u
Paints-nothing filled begun = grind (arith, append-nil)

-- ---- pixels that are written in turn

-- some pixels are painted, and what is kept of them
abbrev pub PaintsIn : (ℕ → ℕ → Bool) → (ℕ → ℕ → Pixel → Pixel) → (ℕ → ℕ → Pixel → List Pixel) → TileImage → Undo → TileImage → Undo → Type 0
PaintsIn written paint keep = Paints (after_where written paint) (kept_where written keep)

two_pixels : (b e both : Bool) (paint : Pixel → Pixel) (c : Pixel) → (b && e) ≡ false → both ≡ (b || e)
    → cond e (paint (cond b (paint c) c)) (cond b (paint c) c) ≡ cond both (paint c) c
two_pixels b e both paint c h is = grind arith

two_kept : (b e both : Bool) (paint : Pixel → Pixel) (keep : Pixel → List Pixel) (c : Pixel) → (b && e) ≡ false → both ≡ (b || e)
    → cond b (keep c) [] ++ cond e (keep (cond b (paint c) c)) [] ≡ cond both (keep c) []
two_kept b e both paint keep c h is = grind (arith, append-nil)

module _ (paint : ℕ → ℕ → Pixel → Pixel) (keep : ℕ → ℕ → Pixel → List Pixel) where
  -- other pixels after some
  pub Paints-both : (first second both : ℕ → ℕ → Bool) {t t' t'' : TileImage} {u u' u'' : Undo}
      → ((x y : ℕ) → (first x y && second x y) ≡ false) → ((x y : ℕ) → both x y ≡ (first x y || second x y))
      → PaintsIn first paint keep t u t' u' → PaintsIn second paint keep t' u' t'' u'' → PaintsIn both paint keep t u t'' u''
  Paints-both first second both apart joined before now =
      Paints-same
      (λ x y held. two_pixels (first x y) (second x y) (both x y) (paint x y) _ (apart x y) (joined x y))
      (λ x y held. two_kept (first x y) (second x y) (both x y) (paint x y) (keep x y) _ (apart x y) (joined x y))
      (Paints-then before now)

  -- no pixel of the place is written
  pub Paints-unwritten : (written : ℕ → ℕ → Bool) {t : TileImage} {u : Undo} → IsTileImage t → u.frame_left ≡ false
      → ((x y : ℕ) → Holds t.place x y → written x y ≡ false) → PaintsIn written paint keep t u t u
  Paints-unwritten written filled begun none =
      Paints-same (λ x y held. rw (none x y held) refl) (λ x y held. rw (none x y held) refl) (Paints-nothing filled begun)

-- ---- row after row

-- those of the rows above a row
abbrev pub above : (ℕ → ℕ → Bool) → ℕ → ℕ → ℕ → Bool
above written row x y = nat_lt y row && written x y

pub Paints-row : (written : ℕ → ℕ → Bool) (paint : ℕ → ℕ → Pixel → Pixel) (keep : ℕ → ℕ → Pixel → List Pixel) (row : ℕ) {t t' t'' : TileImage} {u u' u'' : Undo}
    → PaintsIn (above written row) paint keep t u t' u' → PaintsIn (in_row written row) paint keep t' u' t'' u''
    → PaintsIn (above written (row + 1)) paint keep t u t'' u''
Paints-row written paint keep row = Paints-both paint keep (above written row) (in_row written row) (above written (row + 1))
    (λ x y. grind (arith, nat_tests)) (λ x y. grind (arith, nat_tests))

-- the rows above a box, and after its last row those below it
module _ (written covered : ℕ → ℕ → Bool) (paint : ℕ → ℕ → Pixel → Pixel) (keep : ℕ → ℕ → Pixel → List Pixel) (t : TileImage) (box : Bounds)
    (is : IsWrittenIn written covered t.place box) where
  outside : (x y : ℕ) → Holds t.place x y → (y < box.top) ⊎ (box.bottom ≤ y) → written x y ≡ false
  outside x y held out = is x y held ∙ and_false (is_within box x y) (covered x y) (outside_row box x y out)

  not_above : (x y : ℕ) → Holds t.place x y → (y < box.top) ⊎ (box.top ≤ y) → above written box.top x y ≡ false
  not_above x y held (inl low) = rw (outside x y held (inl low)) (grind arith)
  not_above x y held (inr past) = grind (arith, nat_tests)

  pub Paints-first : {u : Undo} → IsTileImage t → u.frame_left ≡ false → PaintsIn (above written box.top) paint keep t u t u
  Paints-first filled begun = Paints-unwritten paint keep (above written box.top) filled begun (λ x y held. not_above x y held (cases_lt y box.top))

-- ---- a span that is kept

module _ {run : Run} {t : TileImage} (is : HasRun run t.place) (filled : IsTileImage t) (old : List Pixel) (long : length old ≡ run.right - run.left)
    (was : EachColumn run (λ x. get_or old (x - run.left) fresh_pixel ≡ pixel_of t x run.y)) where
  -- what is kept of it
  abbrev kept : List KeptPixel
  kept = kept_row run.left run.y old

  -- and so of a pixel
  each : (x z : ℕ) → (z ≡ run.y) ⊎ (z ≡ run.y → ⊥) → (x < run.left) ⊎ (run.left ≤ x) → (x < run.right) ⊎ (run.right ≤ x)
      → kept_at kept x z ≡ kept_where (in_run run) keep_each x z (pixel_of t x z)
  each x z (inr other) low high = rw (ne_eqb z run.y other) (kept_at-other_row run.left run.y x z old (λ e. other (sym e)))
  each x z (inl same) (inl low) high = let none = kept_at-before run.left run.y x run.y old low in rw same (grind (arith, nat_tests, none))
  each x z (inl same) (inr low) (inr high) = grind (arith, kept_at-after)
  each x z (inl same) (inr low) (inl high) = grind (arith, kept_at-inside)

  Paints-span : {u : Undo} → u.frame_left ≡ false
      → PaintsIn (in_run run) as_it_is keep_each t u t (with_kept u kept)
  Paints-span {u} begun = record {
    placed = refl;
    made = refl;
    deep = refl;
    filled = filled;
    below = older-push (older u.frames) (top u.frames ++ kept);
    begun = begun;
    opening = refl;
    some = λ _. omega (arith, length_push (older u.frames) (top u.frames ++ kept));
    pixels = λ x z held. grind arith;
    kept = λ x z held. rw (top-push (older u.frames) (top u.frames ++ kept)) (kept_at-append (top u.frames) kept x z
        ∙ ap (λ ks. kept_at (top u.frames) x z ++ ks) (each x z (cases_eq z run.y) (cases_lt x run.left) (cases_lt x run.right)));
    inside = λ before. rw (top-push (older u.frames) (top u.frames ++ kept))
        (All-append (λ (k : KeptPixel). Holds t.place k.x k.y) (top u.frames) kept before
        (kept_row-inside t.place run.left run.y old is.crossed is.from_left (omega (arith, long, is.some, is.to_right))));
  }

-- ---- the same, as the code goes

-- the span of what is covered in a row of a box is that of what is written in the place's row
pub span_written : (written covered : ℕ → ℕ → Bool) {p : Place} {box : Bounds} {y : ℕ} {span : Option (ℕ × ℕ)} → LiesIn box p
    → IsWrittenIn written covered p box
    → box.top ≤ y → y < box.bottom → IsRowSpan (λ x. covered x y) box.left box.right span → IsRowSpan (λ x. written x y) p.left (p.left + p.width) span
span_written written covered {p} {box} {y} {span} inside is from to given = grind (arith, nat_tests)

-- the part of a row that the code reads and writes
abbrev pub part : {X : Type 0} → Run → Place → List X → List X
part run p row = take (run.right - p.left - (run.left - p.left)) (drop (run.left - p.left) row)

-- p is the place as it was read, and the rows are those as they were read
module _ {run : Run} {place p : Place} (read : p ≡ place) (is : HasRun run place) where
  read_left : p.left ≡ place.left
  read_left = ap (λ (q : Place). q.left) read

  pub part_len : {X : Type 0} (row : List X) → length row ≡ place.width → length (part run p row) ≡ run.right - run.left
  part_len row wide =
      let left = read_left in
      simp (length-take, length-drop) (omega arith)

  pub part_at : {X : Type 0} (row : List X) (d : X) (x : ℕ) → run.left ≤ x → x < run.right
      → get_or (part run p row) (x - run.left) d ≡ get_or row (x - place.left) d
  part_at row d x low high = grind (arith, read_left, get_or-take, get_or-drop)

module _ {run : Run} {t : TileImage} {p : Place} (read : p ≡ t.place) (is : HasRun run t.place) (filled : IsTileImage t) where
  wide_row : length (row_of t run.y) ≡ t.place.width
  wide_row = length-row_in t.place t.rows run.y filled.colours is.crossed

  wide_depths : length (depth_row_of t run.y) ≡ t.place.width
  wide_depths = length-row_in t.place t.depths run.y filled.depths is.crossed

  abbrev old_pixels : List Pixel
  old_pixels = zip (part run p (row_of t run.y)) (part run p (depth_row_of t run.y))

  old_long : length old_pixels ≡ run.right - run.left
  old_long =
      let long = part_len read is (row_of t run.y) wide_row in
      let deep = part_len read is (depth_row_of t run.y) wide_depths in
      length-zip_equal _ _ (deep ∙ sym long) ∙ long

  old_was : EachColumn run (λ x. get_or old_pixels (x - run.left) fresh_pixel ≡ pixel_of t x run.y)
  old_was x low high = grind (arith, part_len read is, wide_row, wide_depths, get_or-zip, part_at read is)

  pub Paints-kept : {u : Undo} {row : List Colour} {deep : List ℕ} {u'' : Undo} → u.frame_left ≡ false → row ≡ row_of t run.y → deep ≡ depth_row_of t run.y
      → u'' ≡ with_kept u (kept_row run.left run.y (zip (part run p row) (part run p deep)))
      → PaintsIn (in_run run) as_it_is keep_each t u t u''
  Paints-kept begun same same_deep is_kept = rw (is_kept, same, same_deep) (Paints-span is filled old_pixels old_long old_was begun)
