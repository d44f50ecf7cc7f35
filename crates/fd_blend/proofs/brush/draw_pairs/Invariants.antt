use Rattle.std.proofs.Common.{◌≡◌, ◌*◌}
use Rattle.fd_blend.specs.Blend.{blend}
use Rattle.fd_blend.specs.Blending.{Blending}
use Rattle.fd_blend.specs.Resolved.{IsOf}
use Rattle.fd_blend.proofs.BrushLemmas.{changed_upto}
use Rattle.fd_blend.proofs.brush.draw_pairs.Given as goal

abbrev pub invariant-loop-at : goal.invariant-loop-at
invariant-loop-at l = (state : Blending) → IsOf state l.fn.equation.rgb l.fn.equation.alpha l.fn.equation.mask
    → l.dst ≡ changed_upto (blend state l.fn.equation.factor l.fn.source) (2 * l.at) l.fn.dst
