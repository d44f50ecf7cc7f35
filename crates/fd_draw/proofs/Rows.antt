-- Rows that are changed pixel by pixel.
use Rattle.std.proofs.Common.{◌≡◌, ℕ, ◌+◌, ◌<◌, ◌≤◌, List, [], ◌∷◌, ◌++◌, length, take, get_or, map, refl, ap, ◌∙◌, arith, length-append}
use Rattle.std.proofs.Common.{length-drop}
use Rattle.std.specs.List.{enumerate_from, range_with_len}
use Rattle.std.proofs.lemmas.List.{length-map, get_or-map, length-take, get_or-take, get_or-drop, get_or_append_left, get_or-append_right}
use borrow.Rule.Slice.PartMut.{put_mid, post_of}
use Rattle.std.proofs.lemmas.List.FromFn.{length-enumerate_from, get_or-enumerate_from}
use Rattle.fd_blend.specs.declared.channel.Colour.{Colour}
use Rattle.fd_blend.specs.Blending.{Blending}
use Rattle.fd_blend.specs.Blend.{blend}
use Rattle.fd_blend.specs.Row.{blended_row, drawn_row}
use Rattle.fd_cover.specs.declared.shading.Interp.TheVariants.{Flat}
use Rattle.fd_cover.specs.Shade.{colour_of, shaded}
use Rattle.fd_events.specs.declared.pipeline.Pipeline.{Pipeline}
use Rattle.std.proofs.Common.{sym}
use Rattle.std.specs.Prelude.{None}
use Rattle.fd_events.specs.Draw.{Triangle}
use Rattle.fd_events.specs.Image.{source_of}
use Rattle.fd_draw.specs.Written.{colour_blended}
use Rattle.fd_draw.specs.Row.{changed_row}

pub length-changed_row : (change : ℕ → Colour → Colour) (x : ℕ) (row : List Colour) → length (changed_row change x row) ≡ length row
length-changed_row change x row = simp (length-map, length-enumerate_from)

-- the colour at a place in a changed row
pub get_or-changed_row : (change : ℕ → Colour → Colour) (x : ℕ) (row : List Colour) (i : ℕ) (d : Colour) → i < length row
    → get_or (changed_row change x row) i d ≡ change (x + i) (get_or row i d)
get_or-changed_row change x row i d within =
    let inside : i < length (enumerate_from x row) = omega (arith, length-enumerate_from x row, within) in
    get_or-map (λ p. change p.0 p.1) (enumerate_from x row) i (0, d) d inside
    ∙ ap (λ (p : ℕ × Colour). change p.0 p.1) (get_or-enumerate_from x row i (0, d) within)

-- sources that are given by their columns, blended over a row
pub blended_columns : (state : Blending) (factor : Colour) (source : ℕ → Colour) (x : ℕ) (row : List Colour)
    → blended_row state factor (map source (range_with_len x (length row))) row ≡ changed_row (λ column before. blend state factor (source column) before) x row
blended_columns state factor source x [] = refl
blended_columns state factor source x (c ∷ row) = ap (λ cs. blend state factor (source x) c ∷ cs) (blended_columns state factor source (x + 1) row)

-- a flat triangle's colour, drawn over a row
flat_source : (t : Triangle) (x y : ℕ) → t.picture ≡ None → source_of t Flat x y ≡ colour_of t.colours 0
unfolding shaded
flat_source t x y plain = rw plain refl

pub drawn_columns : (t : Triangle) (s : Pipeline) (x y : ℕ) (row : List Colour) → t.picture ≡ None
    → drawn_row s.blend s.factor (colour_of t.colours 0) row ≡ changed_row (λ column before. colour_blended t Flat s column y before) x row
drawn_columns t s x y [] plain = refl
drawn_columns t s x y (c ∷ row) plain =
    ap (λ source. blend s.blend s.factor source c ∷ drawn_row s.blend s.factor (colour_of t.colours 0) row) (sym (flat_source t x y plain))
    ∙ ap (λ cs. colour_blended t Flat s x y c ∷ cs) (drawn_columns t s (x + 1) y row plain)

-- ---- a part of a list that is written

module _ {X : Type 0} (a k : ℕ) (xs ys : List X) (inside : a + k ≤ length xs) (size : length ys ≡ k) where
  head_size : length (take a xs) ≡ a
  head_size = length-take a xs ∙ omega arith

  pub length-put_mid : length (put_mid a k xs ys) ≡ length xs
  length-put_mid =
      simp (length-append, length-drop) (omega (arith, head_size))

  pub before_part : (i : ℕ) (d : X) → i < a → get_or (put_mid a k xs ys) i d ≡ get_or xs i d
  before_part i d low = get_or_append_left (take a xs) (ys ++ post_of a k xs) d i (omega (arith, head_size)) ∙ get_or-take a xs i d low

  pub in_part : (i : ℕ) (d : X) → i < k → get_or (put_mid a k xs ys) (a + i) d ≡ get_or ys i d
  in_part i d low = grind (arith, get_or-append_right, head_size, get_or_append_left)

  pub past_part : (i : ℕ) (d : X) → a + k ≤ i → get_or (put_mid a k xs ys) i d ≡ get_or xs i d
  past_part i d high = grind (arith, get_or-append_right, head_size, get_or-drop)
