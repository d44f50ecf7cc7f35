use Rattle.std.proofs.Common.{◌≡◌, ℕ, ◌<◌, Bool, false, Some, slice_get}
use Rattle.std.specs.Bool.{IsTrue}
use Rattle.fd_cover.specs.Verdict.{is_culled}
use Rattle.fd_cover.specs.declared.verdict.Cull.{Cull}
use Rattle.fd_events.specs.Culled.{says_culled}
use Rattle.fd_events.specs.Draw.{Triangle, triangles_of}
use Rattle.fd_events.proofs.culled.Culled.of.Given as goal

-- all before are culled, where it says so
abbrev pub invariant-loop-triangle : goal.invariant-loop-triangle
invariant-loop-triangle l =
    (cull : Cull) (front_ccw : Bool) → IsTrue (says_culled l.culled cull front_ccw)
    → (i : ℕ) (t : Triangle) → i < l.triangle → slice_get (triangles_of l.list) i ≡ Some t
    → IsTrue (is_culled (record { cull = cull; front_ccw = front_ccw; scissor = false }) t.corners)
