-- Working. How the weights of a triangle's vertices, and the numbers that are interpolated by them, change along a row of covered pixels.
use Rattle.std.specs.Prelude.{◌≡◌, ℕ, ◌+◌, ◌-◌, ◌*◌, ◌%◌, ◌^◌, ◌<◌, ◌≤◌, ◌-ℤ◌}
use Rattle.fd_cover.specs.declared.triangle.Tri.{Tri}
use Rattle.fd_cover.specs.declared.change.Change.{Change}
use Rattle.fd_cover.specs.Climb.{Climbs, IsAbove}
use Rattle.fd_cover.specs.Shade.{area_of, weight_a, weight_b, weight_c}
use Rattle.fd_cover.specs.Walk.{IsNear}

-- the edge opposite to each vertex of a triangle goes down by so much, and up by so much, from the vertex that follows to the one after it
pub record AreSides (t : Tri) (goes_down goes_up : Change) : Type 0 where
  pub down_a : IsAbove (t.c.y -ℤ t.b.y) goes_down.a
  pub down_b : IsAbove (t.a.y -ℤ t.c.y) goes_down.b
  pub down_c : IsAbove (t.b.y -ℤ t.a.y) goes_down.c
  pub up_a : IsAbove (t.b.y -ℤ t.c.y) goes_up.a
  pub up_b : IsAbove (t.c.y -ℤ t.a.y) goes_up.b
  pub up_c : IsAbove (t.a.y -ℤ t.b.y) goes_up.c

-- each weight climbs so, and all together by no more than the double area
pub record IsGradient (t : Tri) (rise fall : Change) : Type 0 where
  pub a : Climbs t (weight_a t) rise.a fall.a
  pub b : Climbs t (weight_b t) rise.b fall.b
  pub c : Climbs t (weight_c t) rise.c fall.c
  pub some : 0 < area_of t
  pub rise_small : rise.a + rise.b + rise.c ≤ area_of t
  pub fall_small : fall.a + fall.b + fall.c ≤ area_of t

-- what a change of the weights adds to what is divided
abbrev pub change_of : Change → ℕ → ℕ → ℕ → ℕ
change_of change a b c = 2 * (change.a * a + change.b * b + change.c * c)

-- a step of 64 bits: the quotient of what is added, less that of what is taken
pub record IsStepBy (unit : ℕ) (rise fall : Change) (a b c divisor step : ℕ) : Type 0 where
  pub up : ℕ
  pub down : ℕ
  pub rises : IsNear unit (change_of rise a b c) divisor up
  pub falls : IsNear unit (change_of fall a b c) divisor down
  pub fits : down < 2 ^ 64
  pub by : step ≡ (up + (2 ^ 64 - down)) % 2 ^ 64

-- the step of a number between the vertices of a triangle
pub record IsStep (unit : ℕ) (t : Tri) (a b c step : ℕ) : Type 0 where
  pub rise : Change
  pub fall : Change
  pub gradient : IsGradient t rise fall
  pub moves : IsStepBy unit rise fall a b c (2 * area_of t) step
