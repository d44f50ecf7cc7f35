-- Working. How the depths of a triangle are found along a row.
use Rattle.std.specs.Prelude.{◌≡◌, ℕ, ◌*◌, ◌^◌, ◌≤◌, List}
use Rattle.fd_cover.specs.declared.triangle.Tri.{Tri}
use Rattle.fd_cover.specs.declared.depth_rows.Slope.{Slope}
use Rattle.fd_cover.specs.declared.depth_rows.Slope.TheVariants.{Level, Walked, Divided}
use Rattle.fd_cover.specs.declared.depth_rows.DepthWalk.{DepthWalk}
use Rattle.fd_cover.specs.Depth.{vertex_depth}
use Rattle.fd_cover.specs.Shade.{area_of}
use Rattle.fd_cover.specs.Gradient.{IsStep}

-- twice the double area is the divisor, which is small enough, and the step is that of the depths
pub record IsDepthWalk (t : Tri) (depths : List ℕ) (walk : DepthWalk) : Type 0 where
  pub divisor : walk.divisor.divisor ≡ 2 * area_of t
  pub small : 384 * area_of t ≤ 2 ^ 48
  pub step : IsStep (2 ^ 48) t (vertex_depth depths 0) (vertex_depth depths 1) (vertex_depth depths 2) walk.step

-- as one, where the vertices are equally deep; by a walk; by a division each, always
abbrev pub IsSlope : Tri → List ℕ → Slope → Type 0
IsSlope t depths (Level depth) = (vertex_depth depths 0 ≡ depth) × (vertex_depth depths 1 ≡ depth) × (vertex_depth depths 2 ≡ depth)
IsSlope t depths (Walked walk) = IsDepthWalk t depths walk
IsSlope t depths Divided = Unit
