use Rattle.std.proofs.Common.{◌≡◌, ◌+◌, ◌-◌, arith}
use Rattle.fd_session.proofs.Switching.{flag_back}
use Rattle.fd_session.proofs.switch.Switch.make.Goals as goal

pub returns-clause-reach : goal.returns-clause-reach
returns-clause-reach c =
    let was = c.is_on-was_on.result in
    let back : c.args.number + 1 - 1 ≡ c.args.number = omega arith in
    let same = flag_back c.args.table.now c.args.number c.args.on was c.is_on-was_on.ensures in
    c.changed_reach.ensures was (cc (c.state_before-after.ensures, back, c.set_on.ensures, same))
