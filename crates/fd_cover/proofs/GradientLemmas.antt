-- Weights, and what is interpolated by them, climb by equal steps along covered pixels.
use Rattle.std.proofs.Common.{◌≡◌, ℕ, ◌+◌, ◌*◌, ◌<◌, ◌≤◌, ℤ, pos, negsuc, ◌+ℤ◌, ◌-ℤ◌, ◌*ℤ◌, true, refl, ap, ◌∙◌, arith, unsigned_abs}
use Rattle.std.proofs.lemmas.Int.{ints}
use Rattle.fd_snap.specs.Point.{Point}
use Rattle.fd_cover.specs.declared.triangle.Tri.{Tri}
use Rattle.fd_cover.specs.declared.change.Change.{Change}
use Rattle.fd_cover.specs.Climb.{IsAbove}
use Rattle.fd_cover.specs.Cross.{cross, centre}
use Rattle.fd_cover.specs.Covers.{covers}
use Rattle.fd_cover.specs.Gradient.{AreSides, IsGradient, change_of}
use Rattle.fd_cover.specs.Shade.{area_of, weight_a, weight_b, weight_c}
use Rattle.fd_cover.specs.Walk.{numerator}
use Rattle.fd_cover.proofs.CrossLemmas.{cross-row, cross-turn}
use Rattle.fd_cover.proofs.CoverLemmas.{IsPositive, IsNegative, IsCovered, covered_from}
use Rattle.fd_cover.proofs.ShadeLemmas.{admitted_side}
use borrow.Author.Differences.{up, down}

-- ---- sides

-- from the column x the side at the column x + i
side_from : (u v : Point) (x y i : ℕ) → cross u v (centre x y) ≡ cross u v (centre (x + i) y) +ℤ (v.y -ℤ u.y) *ℤ pos (256 * i)
side_from u v x y i =
    let place : 256 * x + 128 + 256 * i ≡ 256 * (x + i) + 128 = omega arith in
    rw place at (cross-row u v (pos (256 * y + 128)) (256 * x + 128) (256 * i))

above_is : (n : ℤ) (above : ℕ) → IsAbove n above → above ≡ 256 * up n
above_is (pos n) above is = is.above (grind (arith, ints))
above_is (negsuc n) above is = is.below (grind (arith, ints))

opposite_up : (h k : ℤ) → k ≡ pos 0 -ℤ h → up k ≡ down h
opposite_up (pos n) (pos m) opposite = omega (arith, ints, opposite)
opposite_up (pos n) (negsuc m) opposite = refl
opposite_up (negsuc n) (pos m) opposite = omega (arith, ints, opposite)
opposite_up (negsuc n) (negsuc m) opposite = omega (arith, ints, opposite)

-- two sides that both lie on the triangle's side of an edge, or on its line
abbrev IsOnSide : ℤ → ℤ → Type 0
IsOnSide e t = (IsPositive t → down e ≡ 0) × (IsNegative t → up e ≡ 0)

positive_climbs : (e0 ei h : ℤ) (i : ℕ) → e0 ≡ ei +ℤ h *ℤ pos (256 * i) → down e0 ≡ 0 → down ei ≡ 0
    → unsigned_abs ei + i * (256 * up h) ≡ unsigned_abs e0 + i * (256 * down h)
positive_climbs e0 ei h i all s0 si = omega (arith, ints, all, s0, si)

negative_climbs : (e0 ei h : ℤ) (i : ℕ) → e0 ≡ ei +ℤ h *ℤ pos (256 * i) → up e0 ≡ 0 → up ei ≡ 0
    → unsigned_abs ei + i * (256 * down h) ≡ unsigned_abs e0 + i * (256 * up h)
negative_climbs e0 ei h i all s0 si = omega (arith, ints, all, s0, si)

-- the size of the side climbs on the side of a triangle with this area
size_climbs : (e0 ei h k : ℤ) (i over under : ℕ) (t : ℤ) → e0 ≡ ei +ℤ h *ℤ pos (256 * i) → k ≡ pos 0 -ℤ h → IsAbove h over → IsAbove k under
    → IsOnSide e0 t → IsOnSide ei t
    → (IsPositive t → unsigned_abs ei + i * over ≡ unsigned_abs e0 + i * under) × (IsNegative t → unsigned_abs ei + i * under ≡ unsigned_abs e0 + i * over)
size_climbs e0 ei h k i over under t all opposite is_over is_under s0 si =
    let over_is : over ≡ 256 * up h = above_is h over is_over in
    let under_is : under ≡ 256 * down h = above_is k under is_under ∙ ap (λ n. 256 * n) (opposite_up h k opposite) in (
      λ positive. rw (over_is, under_is) (positive_climbs e0 ei h i all (s0.0 positive) (si.0 positive)),
      λ negative. rw (over_is, under_is) (negative_climbs e0 ei h i all (s0.1 negative) (si.1 negative)),
    )

-- a weight climbs by what its edge goes up, or by what it goes down
abbrev ClimbsAsTurned : ℤ → ℕ → ℕ → ℕ → ℕ → ℕ → Type 0
ClimbsAsTurned area from to i down up = (IsPositive area → to + i * down ≡ from + i * up) × (IsNegative area → to + i * up ≡ from + i * down)

module _ (t : Tri) (goes_down goes_up : Change) (sides : AreSides t goes_down goes_up) where
  abbrev area : ℤ
  area = cross t.a t.b t.c

  module _ (x y i : ℕ) (first : covers t x y ≡ true) (here : covers t (x + i) y ≡ true) where
    abbrev turn : cross t.b t.c t.a ≡ area
    turn = cross-turn t.a t.b t.c

    abbrev turn_twice : cross t.c t.a t.b ≡ area
    turn_twice = cross-turn t.b t.c t.a ∙ turn

    abbrev from : IsCovered t.a t.b t.c (centre x y)
    from = covered_from t x y first

    abbrev to : IsCovered t.a t.b t.c (centre (x + i) y)
    to = covered_from t (x + i) y here

    a_climbs : ClimbsAsTurned area (weight_a t x y) (weight_a t (x + i) y) i goes_down.a goes_up.a
    a_climbs =
        size_climbs _ _ (t.c.y -ℤ t.b.y) (t.b.y -ℤ t.c.y) i _ _ area (side_from t.b t.c x y i) (omega (arith, ints)) sides.down_a sides.up_a
        (admitted_side t.b t.c t.a (centre x y) area turn from.second) (admitted_side t.b t.c t.a (centre (x + i) y) area turn to.second)

    b_climbs : ClimbsAsTurned area (weight_b t x y) (weight_b t (x + i) y) i goes_down.b goes_up.b
    b_climbs =
        size_climbs _ _ (t.a.y -ℤ t.c.y) (t.c.y -ℤ t.a.y) i _ _ area (side_from t.c t.a x y i) (omega (arith, ints)) sides.down_b sides.up_b
        (admitted_side t.c t.a t.b (centre x y) area turn_twice from.third) (admitted_side t.c t.a t.b (centre (x + i) y) area turn_twice to.third)

    c_climbs : ClimbsAsTurned area (weight_c t x y) (weight_c t (x + i) y) i goes_down.c goes_up.c
    c_climbs =
        size_climbs _ _ (t.b.y -ℤ t.a.y) (t.a.y -ℤ t.b.y) i _ _ area (side_from t.a t.b x y i) (omega (arith, ints)) sides.down_c sides.up_c
        (admitted_side t.a t.b t.c (centre x y) area refl from.first) (admitted_side t.a t.b t.c (centre (x + i) y) area refl to.first)

  module _ (some : 0 < area_of t) (down_small : goes_down.a + goes_down.b + goes_down.c ≤ area_of t)
      (up_small : goes_up.a + goes_up.b + goes_up.c ≤ area_of t) where
    pub clockwise_gradient : IsPositive area → IsGradient t goes_up goes_down
    clockwise_gradient positive = record {
      a = λ x y i first here. (a_climbs x y i first here).0 positive;
      b = λ x y i first here. (b_climbs x y i first here).0 positive;
      c = λ x y i first here. (c_climbs x y i first here).0 positive;
      some = some;
      rise_small = up_small;
      fall_small = down_small;
    }

    pub counter_clockwise_gradient : IsNegative area → IsGradient t goes_down goes_up
    counter_clockwise_gradient negative = record {
      a = λ x y i first here. (a_climbs x y i first here).1 negative;
      b = λ x y i first here. (b_climbs x y i first here).1 negative;
      c = λ x y i first here. (c_climbs x y i first here).1 negative;
      some = some;
      rise_small = down_small;
      fall_small = up_small;
    }

-- ---- what is interpolated

sum_climbs : (a0 ai ra fa b0 bi rb fb c0 ci rc fc i a b c area : ℕ) → ai + i * fa ≡ a0 + i * ra → bi + i * fb ≡ b0 + i * rb → ci + i * fc ≡ c0 + i * rc
    → (2 * (ai * a + bi * b + ci * c) + area) + i * (2 * (fa * a + fb * b + fc * c))
    ≡ (2 * (a0 * a + b0 * b + c0 * c) + area) + i * (2 * (ra * a + rb * b + rc * c))
sum_climbs a0 ai ra fa b0 bi rb fb c0 ci rc fc i a b c area ha hb hc =
    let wa : (ai + i * fa) * a ≡ (a0 + i * ra) * a = ap (λ k. k * a) ha in
    let wb : (bi + i * fb) * b ≡ (b0 + i * rb) * b = ap (λ k. k * b) hb in
    let wc : (ci + i * fc) * c ≡ (c0 + i * rc) * c = ap (λ k. k * c) hc in
    omega arith

-- the numerator of a rounded mean, of whatever three numbers
pub numerator_climbs : (t : Tri) (rise fall : Change) (x y i a b c : ℕ) → IsGradient t rise fall → covers t x y ≡ true → covers t (x + i) y ≡ true
    → numerator t (x + i) y a b c + i * change_of fall a b c ≡ numerator t x y a b c + i * change_of rise a b c
numerator_climbs t rise fall x y i a b c gradient first here =
    sum_climbs _ _ _ _ _ _ _ _ _ _ _ _ i a b c (area_of t) (gradient.a x y i first here) (gradient.b x y i first here) (gradient.c x y i first here)
