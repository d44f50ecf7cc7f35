use Rattle.std.proofs.Common.{arith, to_z-of_z}
use Rattle.fd_cover.proofs.HalfLineLemmas.{rising, falling}
use Rattle.fd_cover.proofs.edge.Edge.cut.Goals as goal

pub returns-then-self-ge0-clause-columns : goal.returns-then-self-ge0-clause-columns
returns-then-self-ge0-clause-columns c = grind (arith, to_z-of_z, rising)

pub returns-then-self-lt0-2-clause-columns : goal.returns-then-self-lt0-2-clause-columns
returns-then-self-lt0-2-clause-columns c = grind (arith, to_z-of_z, falling)
