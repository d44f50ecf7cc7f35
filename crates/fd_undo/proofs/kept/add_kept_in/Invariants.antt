use Rattle.std.proofs.Common.{◌≡◌, ◌++◌, take}
use Rattle.fd_undo.proofs.KeptAt.{kept_from, StandsAt}
use Rattle.fd_undo.proofs.kept.add_kept_in.Given as goal

-- what the spans that are left keep of the pixel goes on where the search stands
abbrev pub invariant-loop-span : goal.invariant-loop-span
invariant-loop-span l = record {
  at : StandsAt l.slices l.span-index l.first_colour l.first_depth;
  same : l.kept.items ++ take l.left (kept_from l.slices l.span-index l.first_colour l.first_depth l.pixel.0 l.pixel.1)
      ≡ l.initial.kept.items ++ take l.count (kept_from l.slices 0 0 0 l.pixel.0 l.pixel.1);
}
