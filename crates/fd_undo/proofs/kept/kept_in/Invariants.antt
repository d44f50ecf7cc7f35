use Rattle.std.proofs.Common.{◌≡◌}
use Rattle.std.specs.Prelude.{slice_get}
use Rattle.fd_undo.proofs.KeptAt.{kept_from, StandsAt}
use Rattle.fd_undo.proofs.kept.kept_in.Given as goal

-- what the spans that are left keep of the pixel goes on where the search stands
abbrev pub invariant-loop-span : goal.invariant-loop-span
invariant-loop-span l = record {
  at : StandsAt l.slices l.span-index l.first_colour l.first_depth;
  same : slice_get (kept_from l.slices l.span-index l.first_colour l.first_depth l.x l.y) l.left ≡ slice_get (kept_from l.slices 0 0 0 l.x l.y) l.n;
}
