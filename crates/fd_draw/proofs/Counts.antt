-- How many pixels and spans of a place are written.
use Rattle.std.proofs.Common.{◌≡◌, ℕ, zero, suc, ◌+◌, ◌-◌, ◌*◌, ◌<◌, ◌≤◌, ◌⊎◌, inl, inr, Bool, true, false, cond, ◌&&◌, refl, ap, ◌∙◌, arith, Option, max}
use Rattle.std.specs.Prelude.{Some, None, min}
use Rattle.std.proofs.lemmas.Bool.{eq-eqb}
use Rattle.std.proofs.lemmas.Bool.Decides.{nat_tests}
use Rattle.fd_cover.specs.declared.bounds.Bounds.{Bounds}
use Rattle.fd_cover.specs.Bounds.{is_within}
use Rattle.fd_tile.specs.declared.place.Place.{Place}
use Rattle.fd_tile.specs.Place.{Holds, HasRow}
use Rattle.fd_draw.specs.Area.{LiesIn, IsWrittenIn, place_of_box}
use Rattle.fd_draw.specs.Demand.{total, written_in_row, row_spans, pixels_in, spans_in}
use Rattle.fd_draw.specs.Span.{IsRowSpan, in_span}
use Rattle.fd_draw.specs.Writing.{in_row}
use Rattle.fd_draw.proofs.Areas.{within_from, outside_row, outside_column}

-- ---- sums

pub total_same : (f g : ℕ → ℕ) (a n : ℕ) → ((k : ℕ) → a ≤ k → k < a + n → f k ≡ g k) → total f a n ≡ total g a n
total_same f g a zero same = refl
total_same f g a (suc n) same =
    let here : f a ≡ g a = same a (omega arith) (omega arith) in
    let rest : total f (a + 1) n ≡ total g (a + 1) n = total_same f g (a + 1) n (λ k low high. same k (omega arith) (omega arith)) in
    omega (arith, here, rest)

pub total_constant : (c a n : ℕ) → total (λ _. c) a n ≡ n * c
total_constant c a zero = grind arith
total_constant c a (suc n) = let rest = total_constant c (a + 1) n in grind arith

pub total_nothing : (f : ℕ → ℕ) (a n : ℕ) → ((k : ℕ) → a ≤ k → k < a + n → f k ≡ 0) → total f a n ≡ 0
total_nothing f a n none = total_same f (λ _. 0) a n none ∙ total_constant 0 a n ∙ omega arith

pub total_split : (f : ℕ → ℕ) (a n m : ℕ) → total f a (n + m) ≡ total f a n + total f (a + n) m
total_split f a zero m = grind arith
total_split f a (suc n) m =
    let rest = total_split f (a + 1) n m in
    let step : total f a (suc n + m) ≡ f a + total f (a + 1) (n + m) = ap (λ k. total f a k) {x = suc n + m} {y = suc (n + m)} (omega arith) in
    grind arith

-- a sum may leave out what adds nothing at both ends
pub total_cut : (f : ℕ → ℕ) (a n b c : ℕ) → a ≤ b → b ≤ c → c ≤ a + n
    → ((k : ℕ) → a ≤ k → k < a + n → (k < b) ⊎ (c ≤ k) → f k ≡ 0) → total f a n ≡ total f b (c - b)
total_cut f a n b c low order high none =
    let parts : n ≡ (b - a) + ((c - b) + (a + n - c)) = omega arith in
    let first = total_split f a (b - a) ((c - b) + (a + n - c)) in
    let second = total_split f b (c - b) (a + n - c) in
    let before = total_nothing f a (b - a) (λ k from to. none k from (omega arith) (inl (omega arith))) in
    let after = total_nothing f c (a + n - c) (λ k from to. none k (omega arith) (omega arith) (inr from)) in
    grind arith

pub total_more : (f : ℕ → ℕ) (y bottom : ℕ) → y < bottom → total f y (bottom - y) ≡ f y + total f (y + 1) (bottom - (y + 1))
total_more f y bottom below = ap (λ n. total f y n) {x = bottom - y} {y = suc (bottom - (y + 1))} (omega arith)

-- ---- the pixels of a row

total_span : (f : ℕ → Bool) (l r a n : ℕ) → ((x : ℕ) → a ≤ x → x < a + n → f x ≡ in_span (Some (l, r)) x)
    → total (λ x. cond (f x) 1 0) a n ≡ min r (a + n) - max l a
total_span f l r a zero same = omega arith
total_span f l r a (suc n) same =
    let rest : total (λ x. cond (f x) 1 0) (a + 1) n ≡ min r (a + 1 + n) - max l (a + 1) =
    total_span f l r (a + 1) n (λ x low high. same x (omega arith) (omega arith)) in
    let here : f a ≡ in_span (Some (l, r)) a = same a (omega arith) (omega arith) in
    grind (arith, nat_tests)

no_pixel : (written : ℕ → ℕ → Bool) (y left width : ℕ) → ((x : ℕ) → left ≤ x → x < left + width → written x y ≡ false)
    → total (λ x. cond (written x y) 1 0) left width ≡ 0
no_pixel written y left width none = total_nothing (λ x. cond (written x y) 1 0) left width (λ x low high. ap (λ b. cond b 1 0) (none x low high))

-- a row with a span, or without one
pub written_in_row-span : (written : ℕ → ℕ → Bool) (p : Place) (y first last : ℕ) → IsRowSpan (λ x. written x y) p.left (p.left + p.width) (Some (first, last))
    → written_in_row written p y ≡ last - first
written_in_row-span written p y first last span =
    total_span (λ x. written x y) first last p.left p.width span.same
    ∙ omega (arith, span.bounds.0, span.bounds.1, span.bounds.2)

pub written_in_row-none : (written : ℕ → ℕ → Bool) (p : Place) (y : ℕ) → IsRowSpan (λ x. written x y) p.left (p.left + p.width) None
    → written_in_row written p y ≡ 0
written_in_row-none written p y span = no_pixel written y p.left p.width span.same

pub written_in_row-le : (written : ℕ → ℕ → Bool) (p : Place) (y : ℕ) → written_in_row written p y ≤ p.width
written_in_row-le written p y = total_le (λ x. written x y) p.left p.width
  where
    total_le : (f : ℕ → Bool) (a n : ℕ) → total (λ x. cond (f x) 1 0) a n ≤ n
    total_le f a zero = omega arith
    total_le f a (suc n) = let rest = total_le f (a + 1) n in grind arith

-- ---- a box in a place

pub and_false : (a b : Bool) → a ≡ false → (a && b) ≡ false
and_false a b is = rw is refl

pub and_true : (a b : Bool) → a ≡ true → (a && b) ≡ b
and_true a b is = rw is refl

-- the span of a box's columns is one of the place that the box takes
pub box_span : (covered : ℕ → ℕ → Bool) (box : Bounds) (y : ℕ) (span : Option (ℕ × ℕ)) → box.left ≤ box.right
    → IsRowSpan (λ x. covered x y) box.left box.right span
    → IsRowSpan (λ x. covered x y) (place_of_box box).left ((place_of_box box).left + (place_of_box box).width) span
box_span covered box y span order is = grind arith

-- no pixel is written in rows outside the box
module _ (written covered : ℕ → ℕ → Bool) (p : Place) (box : Bounds) (inside : LiesIn box p) (is : IsWrittenIn written covered p box) where
  pub written_in_row-outside : (y : ℕ) → p.top ≤ y → y < p.top + p.height → (y < box.top) ⊎ (box.bottom ≤ y) → written_in_row written p y ≡ 0
  written_in_row-outside y from to out =
      no_pixel written y p.left p.width
      (λ x low high. is x y (record { from_left = low; to_right = high; from_top = from; to_bottom = to })
      ∙ and_false (is_within box x y) (covered x y) (outside_row box x y out))

  -- in the others, those that are covered in it
  written_in_row-inside : (y : ℕ) → box.top ≤ y → y < box.bottom → written_in_row written p y ≡ written_in_row covered (place_of_box box) y
  written_in_row-inside y from to =
      let held : (x : ℕ) → p.left ≤ x → x < p.left + p.width → Holds p x y =
      λ x low high. record { from_left = low; to_right = high; from_top = omega (arith, inside.from_top); to_bottom = omega (arith, inside.to_bottom) } in
      total_cut (λ x. cond (written x y) 1 0) p.left p.width box.left box.right inside.from_left inside.columns inside.to_right
      (λ x low high out. ap (λ b. cond b 1 0) (is x y (held x low high) ∙ and_false (is_within box x y) (covered x y) (outside_column box x y out)))
      ∙ total_same (λ x. cond (written x y) 1 0) (λ x. cond (covered x y) 1 0) box.left (box.right - box.left)
      (λ x low high. ap (λ b. cond b 1 0)
      (is x y (held x (omega (arith, inside.from_left)) (omega (arith, inside.to_right)))
      ∙ and_true (is_within box x y) (covered x y) (within_from box x y low (omega (arith, inside.columns)) from to)))

  -- the rows of the box are enough
  rows_cut : (f : ℕ → ℕ) → ((y : ℕ) → p.top ≤ y → y < p.top + p.height → (y < box.top) ⊎ (box.bottom ≤ y) → f y ≡ 0)
      → total f p.top p.height ≡ total f box.top (box.bottom - box.top)
  rows_cut f none = total_cut f p.top p.height box.top box.bottom inside.from_top inside.rows inside.to_bottom none

  pub pixels_in-rows : pixels_in written p ≡ total (written_in_row written p) box.top (box.bottom - box.top)
  pixels_in-rows = rows_cut (written_in_row written p) written_in_row-outside

  pub spans_in-rows : spans_in written p ≡ total (row_spans written p) box.top (box.bottom - box.top)
  spans_in-rows = rows_cut (row_spans written p) (λ y from to out. omega (arith, written_in_row-outside y from to out))

  -- and what is covered in it
  pub pixels_in-box : pixels_in written p ≡ pixels_in covered (place_of_box box)
  pixels_in-box = grind (arith, pixels_in-rows, total_same, written_in_row-inside)

  pub spans_in-box : spans_in written p ≡ spans_in covered (place_of_box box)
  spans_in-box = grind (arith, spans_in-rows, total_same, written_in_row-inside)

-- nothing is written
module _ (written : ℕ → ℕ → Bool) (p : Place) (none : (x y : ℕ) → Holds p x y → written x y ≡ false) where
  no_row : (y : ℕ) → p.top ≤ y → y < p.top + p.height → written_in_row written p y ≡ 0
  no_row y from to = no_pixel written y p.left p.width (λ x low high. none x y (record { from_left = low; to_right = high; from_top = from; to_bottom = to }))

  pub pixels_in-nothing : pixels_in written p ≡ 0
  pixels_in-nothing = total_nothing (written_in_row written p) p.top p.height no_row

  pub spans_in-nothing : spans_in written p ≡ 0
  spans_in-nothing = total_nothing (row_spans written p) p.top p.height (λ y from to. omega (arith, no_row y from to))

-- one row is written
module _ (written : ℕ → ℕ → Bool) (p : Place) (y : ℕ) (crossed : HasRow p y) where
  other_row : (k : ℕ) → (k < y) ⊎ (y + 1 ≤ k) → written_in_row (in_row written y) p k ≡ 0
  other_row k out = no_pixel (in_row written y) k p.left p.width (λ x low high. grind (arith, nat_tests))

  this_row : written_in_row (in_row written y) p y ≡ written_in_row written p y
  this_row = total_same _ _ p.left p.width (λ x low high. rw (eq-eqb y y refl) refl)

  one_row : (f : ℕ → ℕ) → ((k : ℕ) → (k < y) ⊎ (y + 1 ≤ k) → f k ≡ 0) → total f p.top p.height ≡ f y
  one_row f none =
      let one : y + 1 - y ≡ suc 0 = omega arith in
      total_cut f p.top p.height y (y + 1) crossed.from_top (omega arith) (omega (arith, crossed.to_bottom)) (λ k _ _ out. none k out) ∙ rw one (omega arith)

  pub pixels_in-row : pixels_in (in_row written y) p ≡ written_in_row written p y
  pixels_in-row = one_row (written_in_row (in_row written y) p) other_row ∙ this_row

  pub spans_in-row : spans_in (in_row written y) p ≡ row_spans written p y
  spans_in-row = one_row (row_spans (in_row written y) p) (λ k out. omega (arith, other_row k out)) ∙ ap (λ n. min 1 n) this_row

-- everything is written
pub written_in_row-all : (p : Place) (y : ℕ) → written_in_row (λ _ _. true) p y ≡ p.width
written_in_row-all p y = total_constant 1 p.left p.width ∙ omega arith

pub pixels_in-all : (p : Place) → pixels_in (λ _ _. true) p ≡ p.width * p.height
pixels_in-all p =
    total_same (written_in_row (λ _ _. true) p) (λ _. p.width) p.top p.height (λ y from to. written_in_row-all p y)
    ∙ total_constant p.width p.top p.height ∙ grind arith

pub spans_in-all : (p : Place) → 1 ≤ p.width → spans_in (λ _ _. true) p ≡ p.height
spans_in-all p some =
    total_same (row_spans (λ _ _. true) p) (λ _. 1) p.top p.height (λ y from to. omega (arith, some, written_in_row-all p y))
    ∙ total_constant 1 p.top p.height ∙ omega arith
