use Rattle.std.proofs.Common.{arith}
use Rattle.fd_draw.proofs.Masks.{ones_set}
use Rattle.fd_draw.proofs.comparison.test_row.Goals as goal

pub returns-then-not-depth-clause-bits : goal.returns-then-not-depth-clause-bits
returns-then-not-depth-clause-bits c = λ k low. rw c.if-not-depth.true (ones_set k (omega (arith, low, c.requires.few)))
