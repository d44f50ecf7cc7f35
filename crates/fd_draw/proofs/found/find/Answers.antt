use Rattle.std.proofs.Common.{ℕ, ◌+◌, ◌-◌, ◌≤◌, subst}
use Rattle.fd_cover.specs.declared.triangle.Tri.{Tri}
use Rattle.fd_cover.specs.Span.{IsUncovered}
use Rattle.fd_draw.proofs.Areas.{drawn_nowhere}
use Rattle.fd_draw.proofs.found.find.Goals as goal

pub returns-then-misses-clause-none : goal.returns-then-misses-clause-none
returns-then-misses-clause-none c =
    let area = c.in_ok-area.area in
    drawn_nowhere c.args.triangle.now c.args.raster.now c.args.window area c.in_ok-area.ensures.drawn
    (subst (λ (r : Tri × ℕ). (n : ℕ) → n ≤ area.bottom - 1 - area.top → IsUncovered r.0 (r.1 + n) area.left area.right) c.of-edges.ensures
    (c.misses.ensures c.if-misses.true))
