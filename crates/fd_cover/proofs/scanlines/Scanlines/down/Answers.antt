use Rattle.std.proofs.Common.{arith}
use Rattle.fd_cover.proofs.ScanlinesLemmas.{edge_below}
use Rattle.fd_cover.proofs.scanlines.Scanlines.down.Goals as goal

pub invariant_of-self : goal.invariant_of-self
invariant_of-self c = grind (arith, edge_below)
