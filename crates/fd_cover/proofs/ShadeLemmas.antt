-- The weights of a covered pixel add up to the area, and the rounded quotient is the nearest.
use Rattle.std.proofs.Common.{◌≡◌, ◌≢◌, ℕ, ◌+◌, ◌<◌, ℤ, pos, negsuc, ◌+ℤ◌, true, refl, ◌∙◌, arith, unsigned_abs}
use Rattle.std.proofs.lemmas.Int.{ints}
use Rattle.fd_snap.specs.Point.{Point}
use Rattle.fd_cover.specs.declared.triangle.Tri.{Tri}
use Rattle.fd_cover.specs.Cross.{cross, centre}
use Rattle.fd_cover.specs.Covers.{covers, admits}
use Rattle.fd_cover.specs.Shade.{IsNearestLarger, rounded_quotient, area_of, weight_a, weight_b, weight_c}
use Rattle.fd_cover.proofs.CrossLemmas.{cross-sum, cross-turn}
use Rattle.fd_cover.proofs.CoverLemmas.{IsPositive, IsNegative, covered_from}
use borrow.Author.Differences.{up, down}

pub admitted_side : (u v c p : Point) (t : ℤ) → cross u v c ≡ t → admits u v c p ≡ true → (IsPositive t → down (cross u v p) ≡ 0)
    × (IsNegative t → up (cross u v p) ≡ 0)
unfolding admits
admitted_side u v c p t same h = grind arith

-- the sizes of three sides that lie on the side of their sum
sizes_add : (a b c t : ℤ) → a +ℤ (b +ℤ c) ≡ t → t ≢ pos 0
    → ((IsPositive t → down a ≡ 0) × (IsNegative t → up a ≡ 0)) → ((IsPositive t → down b ≡ 0) × (IsNegative t → up b ≡ 0))
    → ((IsPositive t → down c ≡ 0) × (IsNegative t → up c ≡ 0))
    → (unsigned_abs b + unsigned_abs c + unsigned_abs a ≡ unsigned_abs t) × (0 < unsigned_abs t)
sizes_add a b c (pos n) sum apart ha hb hc = (omega (arith, ints, sum, apart, ha.0, hb.0, hc.0), omega (arith, ints, apart))
sizes_add a b c (negsuc n) sum apart ha hb hc = (omega (arith, ints, sum, ha.1, hb.1, hc.1), omega arith)

pub weights_add : (t : Tri) (x y : ℕ) → covers t x y ≡ true → (weight_a t x y + weight_b t x y + weight_c t x y ≡ area_of t) × (0 < area_of t)
weights_add t x y h =
    let covered = covered_from t x y h in
    sizes_add (cross t.a t.b (centre x y)) (cross t.b t.c (centre x y)) (cross t.c t.a (centre x y)) (cross t.a t.b t.c)
    (cross-sum t.a t.b t.c (centre x y)) covered.area
    (admitted_side t.a t.b t.c (centre x y) (cross t.a t.b t.c) refl covered.first)
    (admitted_side t.b t.c t.a (centre x y) (cross t.a t.b t.c) (cross-turn t.a t.b t.c) covered.second)
    (admitted_side t.c t.a t.b (centre x y) (cross t.a t.b t.c) (cross-turn t.b t.c t.a ∙ cross-turn t.a t.b t.c) covered.third)

pub rounded_quotient-nearest : (area total : ℕ) → 0 < area → IsNearestLarger area total (rounded_quotient area total)
rounded_quotient-nearest area total some = grind arith
