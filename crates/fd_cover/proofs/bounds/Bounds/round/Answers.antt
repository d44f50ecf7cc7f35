use Rattle.std.proofs.Common.{arith, to_z-of_z}
use Rattle.fd_cover.specs.Bounds.{corner_box}
use Rattle.fd_cover.proofs.bounds.Bounds.round.Goals as goal

pub returns : goal.returns
unfolding corner_box
returns c = grind (arith, to_z-of_z)
