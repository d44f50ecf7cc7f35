use Rattle.std.proofs.Common.{arith}
use Rattle.fd_cover.proofs.ScanlinesLemmas.{uncovered_by_edge}
use Rattle.fd_cover.proofs.scanlines.Scanlines.misses.Goals.{then-leaves_out, else-leaves_out}
use Rattle.fd_cover.proofs.scanlines.Scanlines.misses.Goals as goal

pub returns-then-leaves_out-2 : goal.returns-then-leaves_out-2
returns-then-leaves_out-2 c = grind (arith, uncovered_by_edge)

pub returns-else-leaves_out-2 : goal.returns-else-leaves_out-2
returns-else-leaves_out-2 c = grind (arith, uncovered_by_edge)
