use Rattle.fd_draw.specs.Primitive.{DrawsRows}
use Rattle.fd_draw.proofs.strip.strip_end.Given as goal

-- it is drawn at all pixels of the rows so far
abbrev pub invariant-loop-row : goal.invariant-loop-row
invariant-loop-row l = DrawsRows l.primitive l.fn.place l.y l.row
