use Rattle.std.proofs.Common.{ℤ, arith}
use Rattle.fd_cover.specs.Bounds.{bounds_of}
use Rattle.fd_cover.specs.Cross.{cross}
use Rattle.fd_cover.specs.declared.triangle.Tri.{Tri}
use Rattle.fd_cover.proofs.BoundsLemmas.{same_bounds-hold}
use Rattle.fd_cover.proofs.bounds.Bounds.of.Goals as goal

abbrev area_of : Tri → ℤ
area_of t = cross t.a t.b t.c

pub returns-then-area-eq0-clause-value : goal.returns-then-area-eq0-clause-value
unfolding bounds_of
returns-then-area-eq0-clause-value c = grind arith

pub returns-then-area-eq0-clause-covered : goal.returns-then-area-eq0-clause-covered
returns-then-area-eq0-clause-covered c = same_bounds-hold c.args.triangle.now c.empty.result (returns-then-area-eq0-clause-value c)

pub returns-else-area-eq0-clause-value : goal.returns-else-area-eq0-clause-value
unfolding bounds_of
returns-else-area-eq0-clause-value c = grind arith

pub returns-else-area-eq0-clause-covered : goal.returns-else-area-eq0-clause-covered
returns-else-area-eq0-clause-covered c = same_bounds-hold c.args.triangle.now c.round.result (returns-else-area-eq0-clause-value c)
