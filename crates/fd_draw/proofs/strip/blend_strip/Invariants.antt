use Rattle.fd_draw.specs.Primitive.{blended_by}
use Rattle.fd_draw.specs.Writing.{ChangesRegion, rows_between}
use Rattle.fd_draw.proofs.strip.blend_strip.Given as goal

-- the rows so far have changed
abbrev pub invariant-loop-y : goal.invariant-loop-y
invariant-loop-y l = ChangesRegion (blended_by l.primitive) (rows_between l.top l.y) l.initial.tile l.tile
