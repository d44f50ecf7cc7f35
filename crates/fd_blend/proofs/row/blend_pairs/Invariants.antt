use Rattle.std.proofs.Common.{◌≡◌, ◌*◌}
use Rattle.fd_blend.specs.Blending.{Blending}
use Rattle.fd_blend.specs.Resolved.{IsOf}
use Rattle.fd_blend.proofs.RowLemmas.{row_upto}
use Rattle.fd_blend.proofs.row.blend_pairs.Given as goal

abbrev pub invariant-loop-pair : goal.invariant-loop-pair
invariant-loop-pair l = (state : Blending) → IsOf state l.fn.equation.rgb l.fn.equation.alpha l.fn.equation.mask
    → l.dst ≡ row_upto state l.fn.equation.factor (2 * l.pair) l.fn.src l.fn.dst

abbrev pub invariant-loop-i : goal.invariant-loop-i
invariant-loop-i l = (state : Blending) → IsOf state l.fn.equation.rgb l.fn.equation.alpha l.fn.equation.mask
    → l.dst ≡ row_upto state l.fn.equation.factor l.i l.fn.src l.fn.dst
