use Rattle.std.proofs.Common.{arith}
use Rattle.fd_cover.proofs.WalkLemmas.{columns_from}
use Rattle.fd_cover.proofs.depth_rows.divide_depths.Goals as goal

pub returns : goal.returns
returns c = columns_from 0 _ c.args.x _ c.loop-i.out c.loop-i.auto.out (λ k d low. c.loop-i.invariant k d (omega arith))
