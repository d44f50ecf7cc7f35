use Rattle.std.proofs.Common.{◌≡◌, ℕ, ◌+◌, ◌-◌, ◌∙◌, Bool, true, false, Option, Some, None, sym, refl, ap, arith, length, get_or}
use Rattle.std.specs.Prelude.{not, ◌&&◌, is_some, is_none}
use Rattle.std.proofs.lemmas.Nat.{and_le_l}
use Rattle.std.proofs.lemmas.List.{get_or_default}
use Rattle.fd_cover.specs.Depth.{passes}
use Rattle.fd_events.specs.Image.{is_discarded}
use Rattle.fd_events.specs.Picture.{Painting, texel}
use Rattle.fd_tile.specs.Tile.{depth_in, depth_row_of}
use Rattle.fd_tile.proofs.Pixels.{length-depth_row_of}
use Rattle.fd_draw.specs.Mask.{has_bit}
use Rattle.fd_draw.specs.Primitive.{picture_of, triangle_of}
use Rattle.fd_draw.specs.Run.{EachColumn}
use Rattle.fd_draw.proofs.Masks.{both_set}
use Rattle.fd_draw.proofs.Painting.{part_at, part_len}
use Rattle.fd_draw.proofs.PixelTests.{drawn_as_tested, reached_on}
use Rattle.fd_draw.proofs.tested.test_span.Goals as goal
use Rattle.fd_draw.proofs.tested.test_span.Goals.{After-test_row-passed}

with_true : (b : Bool) → b ≡ (b && not false)
with_true true = refl
with_true false = refl

some_texel : {X : Type 0} (found : Option X) → is_some found ≡ not (is_none found)
some_texel None = refl
some_texel (Some x) = refl

-- whether a pixel passes the depth test
abbrev test : (c : After-test_row-passed) → ℕ → Bool
test c column = passes c.args.primitive.now.state.depth (get_or c.args.depths.now (column - c.args.run.left) 0) (depth_in c.args.tile.now column c.args.run.y)

-- its bit tells so
passed : (c : After-test_row-passed) → EachColumn c.args.run (λ column. has_bit c.test_row-passed.result (column - c.args.run.left) ≡ test c column)
passed c column low high =
    let t = c.args.tile.now in
    let is = c.requires.run in
    let y = c.args.run.y in
    let k = column - c.args.run.left in
    let wide = length-depth_row_of t y c.place-place.ensures.filled is.crossed in
    let long = part_len c.place-place.ensures.value is c.depth_row.result.now (ap length c.depth_row.ensures ∙ wide) in
    let stored = part_at c.place-place.ensures.value is c.depth_row.result.now 0 column low high
    ∙ ap (λ r. get_or r (column - t.place.left) 0) c.depth_row.ensures
    ∙ get_or_default (depth_row_of t y) (column - t.place.left) 0 65535 (omega (arith, wide, low, high, is.from_left, is.to_right)) in
    c.test_row-passed.ensures.bits k (omega (arith, low, high, long))
    ∙ ap (λ d. passes c.args.primitive.now.state.depth (get_or c.args.depths.now k 0) d) stored

pub mask_of-requires-clause-inside : goal.mask_of-requires-clause-inside
mask_of-requires-clause-inside c = λ column low high.
    let there : picture_of c.args.primitive.now ≡ Some c.in-Some.picture.now = rw c.in-Some.is refl in
    let on = reached_on c.args.primitive.now column c.args.run.y (c.requires.reached column low high) in
    rw there at on

pub returns-in-None-clause-passed : goal.returns-in-None-clause-passed
returns-in-None-clause-passed c = λ column low high.
    let p = c.args.primitive.now in
    let at = (goal.at-returns-in-None-clause-passed c).After-test_row-passed in
    let none : picture_of p ≡ None = rw c.in-None.is refl in
    let tests = passed at column low high ∙ with_true (test at column)
    ∙ ap (λ (o : Option Painting). test at column && not (is_discarded o column c.args.run.y)) (sym none) in
    drawn_as_tested (triangle_of p) p.state column c.args.run.y _ (depth_in c.args.tile.now column c.args.run.y) _ tests
    (λ on. c.requires.depths on column low high) (c.requires.reached column low high)

pub returns-in-Some-clause-passed : goal.returns-in-Some-clause-passed
returns-in-Some-clause-passed c = λ column low high.
    let p = c.args.primitive.now in
    let y = c.args.run.y in
    let k = column - c.args.run.left in
    let at = (goal.at-returns-in-Some-clause-passed c).After-test_row-passed in
    let there : picture_of p ≡ Some c.in-Some.picture.now = rw c.in-Some.is refl in
    let here : c.args.run.left + (column - c.args.run.left) ≡ column = omega (arith, low) in
    let bit = c.mask_of.ensures.bits k (omega (arith, low, high)) ∙ ap (λ x. is_some (texel c.in-Some.picture.now x y)) here
    ∙ some_texel (texel c.in-Some.picture.now column y) in
    let tests = both_set c.test_row-passed.result c.mask_of.result k ∙ ap (λ b. b && has_bit c.mask_of.result k) (passed at column low high)
    ∙ ap (λ b. test at column && b) bit ∙ ap (λ (o : Option Painting). test at column && not (is_discarded o column y)) (sym there) in
    drawn_as_tested (triangle_of p) p.state column y _ (depth_in c.args.tile.now column y) _ tests (λ on. c.requires.depths on column low high)
    (c.requires.reached column low high)

pub returns-in-Some-clause-bound : goal.returns-in-Some-clause-bound
returns-in-Some-clause-bound c = omega (arith, and_le_l c.test_row-passed.result c.mask_of.result, c.test_row-passed.ensures.bound)
