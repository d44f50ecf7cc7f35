use Rattle.std.proofs.Common.{arith}
use Rattle.fd_draw.proofs.Masks.{ones_some, zeros_some, ones_alike, zeros_alike}
use Rattle.fd_draw.proofs.comparison.alike.Goals as goal
use Rattle.fd_draw.proofs.comparison.alike.Goals.{then-passed-eq1, else-passed-eq1}

pub returns-clause-least : goal.returns-clause-least
returns-clause-least c = grind (arith, ones_some, zeros_some)

pub returns-clause-same : goal.returns-clause-same
returns-clause-same c = grind (arith, ones_alike, zeros_alike)
