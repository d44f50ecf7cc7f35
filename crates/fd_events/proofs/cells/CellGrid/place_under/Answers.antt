use Rattle.std.proofs.Common.{◌≡◌, ◌/◌, ◌^◌, sym, arith, ◌∙◌}
use Rattle.fd_events.proofs.CellGridLemmas.{from_left, to_right, from_top, to_bottom}
use Rattle.fd_events.proofs.cells.CellGrid.place_under.Goals as goal

pub returns-then-holds : goal.returns-then-holds
returns-then-holds c = λ x y within.
    let cells = c.cells_under-under.result in
    let inside = c.cells_under-under.ensures.under x y within in
    let shift = c.args.self.shift in
    let column : x / 2 ^ shift ≡ cells.left = omega (arith, from_left cells _ _ inside, to_right cells _ _ inside, c.if-under-eq1.true) in
    let row : y / 2 ^ shift ≡ cells.top = omega (arith, from_top cells _ _ inside, to_bottom cells _ _ inside, c.if-under-eq1-2.true) in
    (rw (column, row) (sym c.holds.ensures ∙ c.if-holds.true), rw (column, row) (sym c.place.ensures))
