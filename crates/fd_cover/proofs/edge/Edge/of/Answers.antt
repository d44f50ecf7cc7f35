use Rattle.std.proofs.Common.{◌≡◌, ap, ◌∙◌, arith}
use Rattle.std.proofs.lemmas.Int.{ints}
use Rattle.fd_cover.specs.Cross.{cross, centre}
use Rattle.fd_cover.proofs.edge.Edge.of.Goals as goal

pub returns : goal.returns
returns c =
    let side : c.cross.result ≡ cross c.args.u c.args.v (centre 0 c.args.y) = c.cross.ensures.value ∙ ap (cross c.args.u c.args.v) c.centre.ensures in record {
      step = omega (arith, ints, c.down_to.ensures.value, c.down_to.ensures.bound);
      slack = omega (arith, ints, side, c.cross.ensures.bound, c.margin.ensures.value, c.margin.ensures.bound);
      down = omega (arith, ints, c.right_to.ensures.value, c.right_to.ensures.bound);
      small_step = omega (arith, ints, c.down_to.ensures.bound);
      small_down = omega (arith, ints, c.right_to.ensures.bound);
      small_slack = omega (arith, ints, c.cross.ensures.bound, c.margin.ensures.bound);
    }
