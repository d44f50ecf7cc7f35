use Rattle.std.proofs.Common.{rules, ap}
use Rattle.fd_draw.proofs.Areas.{open_between}
use Rattle.fd_draw.proofs.plan.open_area.Goals as goal

pub returns-clause-left_open : goal.returns-clause-left_open
returns-clause-left_open c =
    let p = c.args.place in
    let box = c.box_of-whole.result in
    open_between c.args.raster.now c.args.rect.now p c.nearest-left.result c.nearest-top.result c.nearest.result c.nearest-2.result box.left box.right box.top
    box.bottom _ _ _ _ c.if-not-raster.false
    (search rules) (search rules) (search rules) (search rules)
    (ap (λ b. b.left) c.box_of-whole.ensures) (ap (λ b. b.right) c.box_of-whole.ensures) (ap (λ b. b.top) c.box_of-whole.ensures)
    (ap (λ b. b.bottom) c.box_of-whole.ensures)
    c.nearest-left.ensures.numbers c.nearest.ensures.numbers c.nearest-top.ensures.numbers c.nearest-2.ensures.numbers
