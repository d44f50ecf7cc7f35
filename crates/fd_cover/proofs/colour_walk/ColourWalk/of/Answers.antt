use Rattle.std.proofs.Common.{rules, ◌≡◌, ◌*◌, ◌^◌, subst, arith}
use Rattle.std.proofs.lemmas.Int.{ints}
use Rattle.fd_cover.specs.Gradient.{IsStep, IsStepBy}
use Rattle.fd_cover.specs.Shade.{area_of}
use Rattle.fd_cover.proofs.colour_walk.ColourWalk.of.Goals as goal

pub returns : goal.returns
returns c =
    let t = c.args.triangle.now in
    let gradient = c.in_ok-gradient.gradient in
    let divisor : c.of-divisor.result.divisor ≡ 2 * area_of t = search rules in
    let moving : (x y z step : _) → IsStepBy (2 ^ 56) gradient.rise gradient.fall x y z c.of-divisor.result.divisor step → IsStep (2 ^ 56) t x y z step
    = λ x y z step moves. record {
      rise = gradient.rise;
      fall = gradient.fall;
      gradient = c.in_ok-gradient.ensures;
      moves = subst (λ d. IsStepBy (2 ^ 56) gradient.rise gradient.fall x y z d step) divisor moves;
    } in
    record {
      divisor = divisor;
      small = grind (arith, ints);
      red = moving _ _ _ _ c.step.ensures;
      green = moving _ _ _ _ c.step-2.ensures;
      blue = moving _ _ _ _ c.step-3.ensures;
      alpha = moving _ _ _ _ c.step-4.ensures;
    }
