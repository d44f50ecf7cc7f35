use Rattle.std.proofs.Common.{◌≡◌, ◌-◌, ◌∙◌, sym, ap, arith}
use Rattle.fd_events.specs.Table.{event_at, state_at}
use Rattle.fd_owner.proofs.PassedOver.{untouched_idle}
use Rattle.fd_owner.proofs.next.is_idle.Goals as goal

pub returns : goal.returns
returns c = λ yes.
    let table = c.args.table.now in
    let at = c.args.position in
    let back : c.number_past-number.result - 1 ≡ at = omega (arith, c.number_past-number.ensures) in
    untouched_idle table at c.event.result.now c.state_before.result.now c.args.place (ap (event_at table) (sym c.number_past-number.ensures) ∙ c.event.ensures)
    (c.state_before.ensures ∙ ap (state_at table) back) (c.draws_nothing.ensures yes)
