use Rattle.std.proofs.Common.{rules, arith, ap}
use Rattle.fd_draw.proofs.Areas.{closed_past}
use Rattle.fd_draw.proofs.plan.is_cut_off.Goals as goal

-- the scissor's rows are others
pub returns-else-is_apart : goal.returns-else-is_apart
returns-else-is_apart c = λ apart x y held.
    let top = ap (λ b. b.top) c.box_of-whole.ensures in
    let bottom = ap (λ b. b.bottom) c.box_of-whole.ensures in
    let out = c.is_apart-else-is_apart.ensures apart y (omega (arith, held, top)) (omega (arith, held, bottom)) in
    closed_past c.args.raster.now c.args.rect.now x y _ _ c.if-raster.true (search rules) (search rules) out
