use Rattle.std.proofs.Common.{arith}
use Rattle.std.proofs.lemmas.Int.{ints}
use Rattle.fd_cover.proofs.GradientLemmas.{clockwise_gradient, counter_clockwise_gradient}
use Rattle.fd_cover.proofs.gradient.Gradient.of.Goals as goal

pub returns-then-area-gt0 : goal.returns-then-area-gt0
returns-then-area-gt0 c =
    clockwise_gradient c.args.triangle.now c.sides.result.0 c.sides.result.1 c.sides.ensures
    (grind (arith, ints)) (grind arith) (grind arith) (grind (arith, ints))

pub returns-else-area-gt0 : goal.returns-else-area-gt0
returns-else-area-gt0 c =
    counter_clockwise_gradient c.args.triangle.now c.sides.result.0 c.sides.result.1 c.sides.ensures
    (grind (arith, ints)) (grind arith) (grind arith) (grind (arith, ints))
