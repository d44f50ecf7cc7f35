use Rattle.std.proofs.Common.{◌≡◌, ap, arith, ◌∙◌}
use Rattle.fd_owner.specs.History.{position}
use Rattle.fd_owner.proofs.Drawn.{position_drawn}
use Rattle.worked_tiles.proofs.tests.history.owner_at.Goals as goal

pub forward-requires-clause-below : goal.forward-requires-clause-below
forward-requires-clause-below c =
    let owner = c.loop-passed.owner in
    let at : position owner.history ≡ c.loop-passed.passed =
    ap position c.loop-passed.invariant.history ∙ position_drawn c.args.table.now owner.place c.loop-passed.passed in
    omega (arith, at, c.loop-passed.auto.passed-end, c.loop-passed-test.true, c.requires)
