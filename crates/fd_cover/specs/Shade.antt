-- Promised. The source colour of a triangle at a covered pixel, in whole numbers: the exact weighted mean, rounded once.
use Rattle.std.specs.Prelude.{◌≡◌, ℕ, ◌+◌, ◌*◌, ◌/◌, ◌≤◌, unsigned_abs, List, slice_index_or}
use Rattle.std.specs.Int.{abs_diff}
use Rattle.fd_blend.specs.declared.channel.Colour.{Colour}
use Rattle.fd_cover.specs.declared.triangle.Tri.{Tri}
use Rattle.fd_cover.specs.declared.shading.Interp.{Interp}
use Rattle.fd_cover.specs.declared.shading.Interp.TheVariants.{Flat, Linear}
use Rattle.fd_cover.specs.Cross.{cross, centre}

-- no whole number is nearer to total / area than mean, and mean is the larger where another one is as near
pub record IsNearestLarger (area total mean : ℕ) : Type 0 where
  pub nearest : (other : ℕ) → abs_diff (area * mean) total ≤ abs_diff (area * other) total
  pub larger_on_tie : (other : ℕ) → abs_diff (area * other) total ≡ abs_diff (area * mean) total → other ≤ mean

-- total / area, rounded to the nearest, up at a half
abbrev pub rounded_quotient : ℕ → ℕ → ℕ
rounded_quotient area total = (2 * total + area) / (2 * area)

-- twice the triangle's area, and twice the area of a pixel's centre with the edge opposite each vertex
abbrev pub area_of : Tri → ℕ
area_of t = unsigned_abs (cross t.a t.b t.c)

abbrev pub weight_a : Tri → ℕ → ℕ → ℕ
weight_a t x y = unsigned_abs (cross t.b t.c (centre x y))

abbrev pub weight_b : Tri → ℕ → ℕ → ℕ
weight_b t x y = unsigned_abs (cross t.c t.a (centre x y))

abbrev pub weight_c : Tri → ℕ → ℕ → ℕ
weight_c t x y = unsigned_abs (cross t.a t.b (centre x y))

-- the sum of one channel of the vertices, each times its weight
abbrev pub weighted_sum : Tri → ℕ → ℕ → ℕ → ℕ → ℕ → ℕ
weighted_sum t x y a b c = weight_a t x y * a + weight_b t x y * b + weight_c t x y * c

-- one channel, interpolated between the vertices
abbrev pub interpolated : Tri → ℕ → ℕ → ℕ → ℕ → ℕ → ℕ
interpolated t x y a b c = rounded_quotient (area_of t) (weighted_sum t x y a b c)

-- the colour of a vertex
abbrev pub colour_of : List Colour → ℕ → Colour
colour_of colours vertex = slice_index_or colours vertex (record { r = 0; g = 0; b = 0; a = 0 })

-- the colour at a covered pixel, from the colours of the vertices: flat takes the first vertex's, linear the weighted mean of the three
unfoldable pub shaded : Tri → Interp → Colour → Colour → Colour → ℕ → ℕ → Colour
shaded t Flat a b c x y = a
shaded t Linear a b c x y = record {
  r = interpolated t x y a.r b.r c.r;
  g = interpolated t x y a.g b.g c.g;
  b = interpolated t x y a.b b.b c.b;
  a = interpolated t x y a.a b.a c.a;
}

-- each channel of a colour is the nearest to the weighted mean of the vertices' channels
pub record IsNearestMean (t : Tri) (a b c : Colour) (x y : ℕ) (colour : Colour) : Type 0 where
  pub red : IsNearestLarger (area_of t) (weighted_sum t x y a.r b.r c.r) colour.r
  pub green : IsNearestLarger (area_of t) (weighted_sum t x y a.g b.g c.g) colour.g
  pub blue : IsNearestLarger (area_of t) (weighted_sum t x y a.b b.b c.b) colour.b
  pub alpha : IsNearestLarger (area_of t) (weighted_sum t x y a.a b.a c.a) colour.a
