use Rattle.std.proofs.Common.{◌≡◌, ap, arith, sym, ◌∙◌}
use Rattle.fd_owner.specs.History.{position, drawn_history}
use Rattle.fd_owner.proofs.Drawn.{position_drawn}
use Rattle.worked_tiles.proofs.tests.history.history_at.Goals as goal

pub history-requires-clause-follows : goal.history-requires-clause-follows
history-requires-clause-follows c =
    let owner = c.in_ok-owner.owner in
    let table = c.args.table.now in
    let at : position owner.history ≡ c.args.position = ap position c.in_ok-owner.ensures.history ∙ position_drawn table owner.place c.args.position in
    c.in_ok-owner.ensures.history ∙ ap (drawn_history table owner.place) (sym at)

pub history-requires-clause-within : goal.history-requires-clause-within
history-requires-clause-within c =
    let owner = c.in_ok-owner.owner in
    let table = c.args.table.now in
    let at : position owner.history ≡ c.args.position = ap position c.in_ok-owner.ensures.history ∙ position_drawn table owner.place c.args.position in
    omega (arith, at, c.if-position-len.false, c.len.ensures.value)
