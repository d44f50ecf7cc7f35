-- Working. Draws of which the raster state leaves no triangle.
use Rattle.std.specs.Prelude.{◌≡◌, ℕ, Bool, false, IsTrue, List, Some, slice_get, if◌then◌else◌}
use Rattle.fd_cover.specs.declared.verdict.Cull.{Cull}
use Rattle.fd_cover.specs.declared.verdict.Cull.TheVariants.{None, Front, Back}
use Rattle.fd_cover.specs.Verdict.{is_culled}
use Rattle.fd_events.specs.Draw.{Triangle}
use Rattle.fd_events.specs.declared.culled.Culled.{Culled}

-- every triangle is culled
abbrev pub AreCulled : Cull → Bool → List Triangle → Type 0
AreCulled cull front_ccw ts =
    (i : ℕ) (t : Triangle) → slice_get ts i ≡ Some t → IsTrue (is_culled (record { cull = cull; front_ccw = front_ccw; scissor = false }) t.corners)

-- what is kept of a draw says so
abbrev pub says_culled : Culled → Cull → Bool → Bool
says_culled culled None front_ccw = false
says_culled culled Front front_ccw = if front_ccw then culled.front_ccw else culled.front
says_culled culled Back front_ccw = if front_ccw then culled.back_ccw else culled.back

-- and is right
abbrev pub TellsCulled : Culled → List Triangle → Type 0
TellsCulled culled ts = (cull : Cull) (front_ccw : Bool) → IsTrue (says_culled culled cull front_ccw) → AreCulled cull front_ccw ts
