use Rattle.std.proofs.Common.{arith}
use Rattle.fd_cover.specs.Shade.{colour_of}
use Rattle.fd_cover.proofs.WalkLemmas.{columns_from}
use Rattle.fd_cover.proofs.colour_walk.divide_colours.Goals as goal

pub returns : goal.returns
returns c = columns_from (colour_of c.args.colours.now 0) _ c.args.x _ c.loop-i.out c.loop-i.auto.out (λ k d low. c.loop-i.invariant k d (omega arith))
