-- Working. A triangle at a row of pixels, by its edges: each keeps how far a pixel's centre may go before the edge leaves it out.
use Rattle.std.specs.Prelude.{◌≡◌, ℕ, ◌+◌, ◌*◌, ◌^◌, ◌≤◌, ◌||◌, ℤ, pos, ◌-ℤ◌, ◌*ℤ◌, int_lt, unsigned_abs, if◌then◌else◌}
use Rattle.fd_snap.specs.Point.{Point}
use Rattle.fd_cover.specs.declared.triangle.Tri.{Tri}
use Rattle.fd_cover.specs.declared.edge.Edge.{Edge}
use Rattle.fd_cover.specs.Cross.{cross, centre}
use Rattle.fd_cover.specs.Covers.{is_top}

-- the same triangle with its vertices clockwise
unfoldable pub clockwise : Tri → Tri
clockwise t = if int_lt (cross t.a t.b t.c) (pos 0) then record { a = t.a; b = t.c; c = t.b } else t

-- by how much a point's side of an edge of a clockwise triangle has to be above 0: a top or a left edge has its own points too
abbrev pub margin : Point → Point → Point → ℤ
margin u v c = if is_top u v c || int_lt v.y u.y then pos 0 else pos 1

-- the edge u v of a clockwise triangle at row y: a centre's side less the margin is the slack at column 0, falls by the step from a column to
-- the next, and grows by `down` from a row to the next
pub record IsEdge (u v c : Point) (y : ℕ) (edge : Edge) : Type 0 where
  pub step : edge.step ≡ pos 256 *ℤ (v.y -ℤ u.y)
  pub slack : edge.slack ≡ cross u v (centre 0 y) -ℤ margin u v c
  pub down : edge.down ≡ pos 256 *ℤ (v.x -ℤ u.x)
  pub small_step : unsigned_abs edge.step ≤ 2 ^ 31
  pub small_down : unsigned_abs edge.down ≤ 2 ^ 31
  pub small_slack : unsigned_abs edge.slack ≤ 2 ^ 48 + 2 ^ 31 * y

-- the three edges at row y
pub record AreEdges (t : Tri) (y : ℕ) (first second third : Edge) : Type 0 where
  pub ab : IsEdge t.a t.b t.c y first
  pub bc : IsEdge t.b t.c t.a y second
  pub ca : IsEdge t.c t.a t.b y third
