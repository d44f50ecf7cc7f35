-- A rounded quotient along a row of covered pixels is the whole part of an accumulator that grows by equal steps.
use Rattle.std.proofs.Common.{List, length, map, replicate, get_or, ◌≡◌, ℕ, suc, ◌+◌, ◌-◌, ◌*◌, ◌/◌, ◌%◌, ◌^◌, ◌<◌, ◌≤◌, inl, inr, true, refl, sym, ap, ◌∙◌}
use Rattle.std.proofs.Common.{arith}
use Rattle.std.proofs.lemmas.Bool.{cases_lt}
use Rattle.std.proofs.lemmas.List.{ext_get_or, length-replicate, get_or-replicate}
use Rattle.std.proofs.lemmas.List.FromFn.{get_or-map-range_with_len, length-map-range_with_len}
use Rattle.std.specs.List.{range_with_len, slice_index}
use Rattle.fd_blend.specs.declared.channel.Colour.{Colour}
use Rattle.std.proofs.Math.Nat.{mul-le-mul_left}
use Rattle.fd_cover.specs.declared.triangle.Tri.{Tri}
use Rattle.fd_cover.specs.ColourWalk.{top_colour}
use Rattle.fd_cover.specs.Covers.{covers}
use Rattle.fd_cover.specs.declared.shading.Interp.TheVariants.{Linear}
use Rattle.fd_cover.specs.Shade.{area_of, weight_a, weight_b, weight_c, interpolated, shaded}
use Rattle.fd_cover.specs.Depth.{depth_at, vertex_depth}
use Rattle.fd_cover.specs.Gradient.{IsStep, change_of}
use Rattle.fd_cover.specs.Walk.{numerator, IsNear, accumulator_at}
use Rattle.fd_cover.proofs.GradientLemmas.{numerator_climbs}
use Rattle.fd_cover.proofs.ShadeLemmas.{weights_add}

-- ---- accumulators

-- a quotient by its bounds
quotient_is : (w k q : ℕ) → 0 < k → k * q ≤ w → w < k * suc q → w / k ≡ q
quotient_is w k q some low high = grind arith

module _ (unit n0 n rise fall m first up down i : ℕ) (some : 0 < m) (fine : 192 * m ≤ unit) (few : i < 32) (climbs : n + i * fall ≡ n0 + i * rise)
    (near : IsNear unit n0 m first) (rises : IsNear unit rise m up) (falls : IsNear unit fall m down) where
  abbrev rest : ℕ
  rest = n0 * unit - m * first

  abbrev rest_up : ℕ
  rest_up = rise * unit - m * up

  abbrev rest_down : ℕ
  rest_down = fall * unit - m * down

  exact : (n0 * unit ≡ m * first + rest) × (rest < 3 * m)
  exact = (omega (arith, near.low), omega (arith, near.low, near.high))

  exact_up : (rise * unit ≡ m * up + rest_up) × (rest_up < 3 * m)
  exact_up = (omega (arith, rises.low), omega (arith, rises.low, rises.high))

  exact_down : (fall * unit ≡ m * down + rest_down) × (rest_down < 3 * m)
  exact_down = (omega (arith, falls.low), omega (arith, falls.low, falls.high))

  many_up : i * rest_up ≤ 93 * m
  many_up = grind arith

  many_down : i * rest_down ≤ 93 * m
  many_down = grind arith

  -- all that is added, times the divisor
  balance : m * (first + 96 + i * up) + (rest + i * rest_up) ≡ m * (i * down) + (n * unit + 96 * m + i * rest_down)
  balance =
      let scaled : (n + i * fall) * unit ≡ (n0 + i * rise) * unit = ap (λ k. k * unit) climbs in
      let each_up : i * (rise * unit) ≡ i * (m * up + rest_up) = ap (λ k. i * k) exact_up.0 in
      let each_down : i * (fall * unit) ≡ i * (m * down + rest_down) = ap (λ k. i * k) exact_down.0 in
      omega (arith, exact.0)

  -- nothing is lost where the accumulator is taken as a difference
  pub accumulator-exact : i * down ≤ first + 96 + i * up
  accumulator-exact = grind (arith, mul-le-mul_left, balance, exact, many_up, many_down)

  pub accumulator-quotient : accumulator_at first up down i / unit ≡ n / m
  accumulator-quotient =
      let w : accumulator_at first up down i + i * down ≡ first + 96 + i * up = omega (arith, accumulator-exact) in
      let mw : m * (accumulator_at first up down i + i * down) ≡ m * (first + 96 + i * up) = ap (λ k. m * k) w in
      bounded (accumulator_at first up down i) (omega (arith, balance, mw, exact.1, many_up, many_down))
      (omega (arith, balance, mw, exact.1, many_up, many_down))
    where
      bounded : (p : ℕ) → n * unit < m * p → m * p ≤ n * unit + 189 * m → p / unit ≡ n / m
      bounded p low high =
          let whole : n ≡ m * (n / m) + n % m = omega arith in
          let scaled : n * unit ≡ (m * (n / m) + n % m) * unit = ap (λ k. k * unit) whole in
          let rest : (n % m + 1) * unit ≤ m * unit = ap_le in
          quotient_is p unit (n / m) (omega arith)
          (elim (cases_lt p (unit * (n / m))) [
            | inl less ↦ let grown : m * suc p ≤ m * (unit * (n / m)) = mul-le-mul_left m less in absurd (omega arith)
            | inr more ↦ more
          ])
          (elim (cases_lt p (unit * suc (n / m))) [
            | inl less ↦ less
            | inr more ↦ let grown : m * (unit * suc (n / m)) ≤ m * p = mul-le-mul_left m more in absurd (omega arith)
          ])
        where
          ap_le : (n % m + 1) * unit ≤ m * unit
          ap_le = let grown : unit * (n % m + 1) ≤ unit * m = mul-le-mul_left unit (omega arith) in omega arith

-- the mean of equal numbers
pub level_mean : (wa wb wc z area : ℕ) → wa + wb + wc ≡ area → 0 < area → (2 * (wa * z + wb * z + wc * z) + area) / (2 * area) ≡ z
level_mean wa wb wc z area sum some =
    let whole : (wa + wb + wc) * z ≡ area * z = ap (λ k. k * z) sum in
    quotient_is (2 * (wa * z + wb * z + wc * z) + area) (2 * area) z (omega arith) (omega (arith, whole)) (omega (arith, whole))

-- ---- a number's walk, below top, with so many units to a whole one

-- the walk stands at column i of the row: its accumulator is that of the quotient at the column 0 and of the step
pub record IsWalk (unit : ℕ) (t : Tri) (x y a b c i accumulator step : ℕ) : Type 0 where
  pub begin : ℕ
  pub first : IsNear unit (numerator t x y a b c) (2 * area_of t) begin
  pub is_step : IsStep unit t a b c step
  pub at : accumulator ≡ accumulator_at begin is_step.moves.up is_step.moves.down i

-- what a row of covered pixels gives at its column i
pub record IsAlong (unit : ℕ) (t : Tri) (x y i : ℕ) : Type 0 where
  pub fine : 192 * (2 * area_of t) ≤ unit
  pub first : covers t x y ≡ true
  pub here : covers t (x + i) y ≡ true
  pub few : i < 32

weighted_small : (wa wb wc a b c area top : ℕ) → wa + wb + wc ≡ area → a < top → b < top → c < top → 2 * (wa * a + wb * b + wc * c) + area + area
    ≤ 2 * (area * top)
weighted_small wa wb wc a b c area top sum small_a small_b small_c =
    let ha : wa * suc a ≤ wa * top = mul-le-mul_left wa small_a in
    let hb : wb * suc b ≤ wb * top = mul-le-mul_left wb small_b in
    let hc : wc * suc c ≤ wc * top = mul-le-mul_left wc small_c in
    let whole : (wa + wb + wc) * top ≡ area * top = ap (λ k. k * top) sum in
    omega arith

quotient_below : (n area top : ℕ) → 0 < area → n + area ≤ 2 * (area * top) → n / (2 * area) < top
quotient_below n area top some small = grind arith

accumulator_below : (accumulator unit q top : ℕ) → 0 < unit → accumulator / unit ≡ q → q < top → accumulator < unit * top
accumulator_below accumulator unit q top some is low = grind arith

module _ (unit : ℕ) (t : Tri) (x y i a b c step begin : ℕ) (along : IsAlong unit t x y i)
    (near : IsNear unit (numerator t x y a b c) (2 * area_of t) begin) (is_step : IsStep unit t a b c step) where
  abbrev up : ℕ
  up = is_step.moves.up

  abbrev down : ℕ
  down = is_step.moves.down

  total : (weight_a t (x + i) y + weight_b t (x + i) y + weight_c t (x + i) y ≡ area_of t) × (0 < area_of t)
  total = weights_add t (x + i) y along.here

  climbs : numerator t (x + i) y a b c + i * change_of is_step.fall a b c ≡ numerator t x y a b c + i * change_of is_step.rise a b c
  climbs = numerator_climbs t is_step.rise is_step.fall x y i a b c is_step.gradient along.first along.here

  some : 0 < 2 * area_of t
  some = omega (arith, total.1)

  pub whole_part : accumulator_at begin up down i / unit ≡ interpolated t (x + i) y a b c
  whole_part =
      accumulator-quotient unit (numerator t x y a b c) (numerator t (x + i) y a b c) _ _ (2 * area_of t) begin up down i some along.fine along.few climbs near
      is_step.moves.rises is_step.moves.falls

  pub no_loss : i * down ≤ begin + 96 + i * up
  no_loss =
      accumulator-exact unit (numerator t x y a b c) (numerator t (x + i) y a b c) _ _ (2 * area_of t) begin up down i some along.fine along.few climbs near
      is_step.moves.rises is_step.moves.falls

  pub accumulator_fits : (top : ℕ) → a < top → b < top → c < top → accumulator_at begin up down i < unit * top
  accumulator_fits top small_a small_b small_c =
      let small = weighted_small (weight_a t (x + i) y) (weight_b t (x + i) y) (weight_c t (x + i) y) a b c (area_of t) top total.0 small_a small_b small_c in
      accumulator_below (accumulator_at begin up down i) unit _ top (omega (arith, along.fine, total.1)) whole_part
      (quotient_below (numerator t (x + i) y a b c) (area_of t) top total.1 small)

-- the number at a column
pub walk_value : (unit : ℕ) (t : Tri) (x y a b c i accumulator step : ℕ) → IsAlong unit t x y i → IsWalk unit t x y a b c i accumulator step
    → accumulator / unit
    ≡ interpolated t (x + i) y a b c
walk_value unit t x y a b c i accumulator step along walk =
    ap (λ p. p / unit) walk.at ∙ whole_part unit t x y i a b c step walk.begin along walk.first walk.is_step

next_accumulator : (begin up down i p q : ℕ) → i * down ≤ begin + 96 + i * up → (i + 1) * down ≤ begin + 96 + (i + 1) * up → down < 2 ^ 64
    → p ≡ accumulator_at begin up down i → q ≡ accumulator_at begin up down (i + 1) → q < 2 ^ 64 → (p + (up + (2 ^ 64 - down)) % 2 ^ 64) % 2 ^ 64 ≡ q
next_accumulator begin up down i p q here next fits is_p is_q small = omega arith

-- the next column
pub walk_on : (unit top : ℕ) (t : Tri) (x y a b c i accumulator step : ℕ) → unit * top ≡ 2 ^ 64 → a < top → b < top → c < top → IsAlong unit t x y i
    → IsAlong unit t x y (i + 1) → IsWalk unit t x y a b c i accumulator step
    → IsWalk unit t x y a b c (i + 1) ((accumulator + step) % 2 ^ 64) step
walk_on unit top t x y a b c i accumulator step whole small_a small_b small_c along along_next walk = record {
  begin = walk.begin;
  first = walk.first;
  is_step = walk.is_step;
  at =
      ap (λ s. (accumulator + s) % 2 ^ 64) walk.is_step.moves.by
      ∙ next_accumulator walk.begin walk.is_step.moves.up walk.is_step.moves.down i accumulator _
      (no_loss unit t x y i a b c step walk.begin along walk.first walk.is_step)
      (no_loss unit t x y (i + 1) a b c step walk.begin along_next walk.first walk.is_step) walk.is_step.moves.fits walk.at refl
      (rw whole at (accumulator_fits unit t x y (i + 1) a b c step walk.begin along_next walk.first walk.is_step top small_a small_b small_c));
}

-- a colour by its channels
pub shaded_by : (t : Tri) (a b c : Colour) (x y red green blue alpha : ℕ) → red ≡ interpolated t x y a.r b.r c.r → green ≡ interpolated t x y a.g b.g c.g
    → blue ≡ interpolated t x y a.b b.b c.b → alpha ≡ interpolated t x y a.a b.a c.a
    → record { r = red; g = green; b = blue; a = alpha } ≡ shaded t Linear a b c x y
unfolding shaded
shaded_by t a b c x y red green blue alpha is_red is_green is_blue is_alpha = rw (is_red, is_green, is_blue, is_alpha) refl

-- values that a function of the column gives
pub columns_from : {A : Type 0} (d : A) (source : ℕ → A) (x n : ℕ) (sources : List A) → length sources ≡ n
    → ((i : ℕ) (d : A) → i < n → get_or sources i d ≡ source (x + i)) → sources ≡ map source (range_with_len x n)
columns_from d source x n sources size each =
    ext_get_or d sources (map source (range_with_len x n)) (size ∙ sym (length-map-range_with_len source x n))
    (λ i within. let inside : i < n = omega (arith, size, within) in
    each i d inside ∙ sym (get_or-map-range_with_len source x n i (x + i) d inside refl))

-- a triangle whose vertices are equally deep has that depth in every column
module _ (t : Tri) (depths : List ℕ) (z x y n : ℕ) (level : (vertex_depth depths 0 ≡ z) × (vertex_depth depths 1 ≡ z) × (vertex_depth depths 2 ≡ z))
    (covered : (column : ℕ) → x ≤ column → column < x + n → covers t column y ≡ true) where
  level_at : (column : ℕ) → x ≤ column → column < x + n → depth_at t depths column y ≡ z
  unfolding depth_at
  level_at column low high =
      let total = weights_add t column y (covered column low high) in
      rw (level.0, level.1, level.2) (level_mean (weight_a t column y) (weight_b t column y) (weight_c t column y) z (area_of t) total.0 total.1)

  pub level_columns : replicate n z ≡ map (λ column. depth_at t depths column y) (range_with_len x n)
  level_columns =
      columns_from 0 (λ column. depth_at t depths column y) x n (replicate n z) (length-replicate n z)
      (λ i d low. get_or-replicate n i z d low ∙ sym (level_at (x + i) (omega arith) (omega (arith, low))))

-- ---- four channels at once

-- each channel's walk stands at column x + i
pub record AreWalks (t : Tri) (x y : ℕ) (a b c : Colour) (i : ℕ) (accumulators steps : List ℕ) : Type 0 where
  pub red : IsWalk (2 ^ 56) t x y a.r b.r c.r i (slice_index accumulators 0) (slice_index steps 0)
  pub green : IsWalk (2 ^ 56) t x y a.g b.g c.g i (slice_index accumulators 1) (slice_index steps 1)
  pub blue : IsWalk (2 ^ 56) t x y a.b b.b c.b i (slice_index accumulators 2) (slice_index steps 2)
  pub alpha : IsWalk (2 ^ 56) t x y a.a b.a c.a i (slice_index accumulators 3) (slice_index steps 3)

-- three channels are bytes
abbrev pub AreBytes : ℕ → ℕ → ℕ → Type 0
AreBytes a b c = (a < 256) × ((b < 256) × (c < 256))

module _ (t : Tri) (x y : ℕ) (a b c : Colour) (i : ℕ) (accumulators steps : List ℕ) (along : IsAlong (2 ^ 56) t x y i)
    (walks : AreWalks t x y a b c i accumulators steps) where
  -- the highest bytes are the colour there
  pub walks_shade : top_colour accumulators ≡ shaded t Linear a b c (x + i) y
  walks_shade = shaded_by t a b c (x + i) y _ _ _ _
      (walk_value (2 ^ 56) t x y a.r b.r c.r i _ _ along walks.red)
      (walk_value (2 ^ 56) t x y a.g b.g c.g i _ _ along walks.green)
      (walk_value (2 ^ 56) t x y a.b b.b c.b i _ _ along walks.blue)
      (walk_value (2 ^ 56) t x y a.a b.a c.a i _ _ along walks.alpha)

  -- the next column
  pub walks_on : (next : List ℕ) → ((k : ℕ) → k < 4 → slice_index next k ≡ (slice_index accumulators k + slice_index steps k) % 2 ^ 64)
      → AreBytes a.r b.r c.r → AreBytes a.g b.g c.g → AreBytes a.b b.b c.b → AreBytes a.a b.a c.a → IsAlong (2 ^ 56) t x y (i + 1)
      → AreWalks t x y a b c (i + 1) next steps
  walks_on next is red green blue alpha along_next = record {
    red = rw (is 0 (omega arith)) (walk_on (2 ^ 56) 256 t x y a.r b.r c.r i _ _ refl red.0 red.1.0 red.1.1 along along_next walks.red);
    green = rw (is 1 (omega arith)) (walk_on (2 ^ 56) 256 t x y a.g b.g c.g i _ _ refl green.0 green.1.0 green.1.1 along along_next walks.green);
    blue = rw (is 2 (omega arith)) (walk_on (2 ^ 56) 256 t x y a.b b.b c.b i _ _ refl blue.0 blue.1.0 blue.1.1 along along_next walks.blue);
    alpha = rw (is 3 (omega arith)) (walk_on (2 ^ 56) 256 t x y a.a b.a c.a i _ _ refl alpha.0 alpha.1.0 alpha.1.1 along along_next walks.alpha);
  }
