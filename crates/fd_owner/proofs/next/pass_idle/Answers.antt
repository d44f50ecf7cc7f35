use Rattle.std.proofs.Common.{◌≡◌, ◌+◌, arith}
use Rattle.fd_owner.proofs.PassedOver.{untouched_on}
use Rattle.fd_owner.proofs.next.pass_idle.Goals as goal

pub loop-position-preserved : goal.loop-position-preserved
loop-position-preserved c =
    let inv = c.loop-position.invariant in
    let at = c.loop-position.position in
    record {
      from = omega (arith, inv.from);
      last = omega (arith, c.loop-position-test.true);
      idle = untouched_on c.args.table.now c.args.from at (at + 1) c.args.place inv.idle
          (λ k above below. let same : k ≡ at = omega (arith, above, below) in rw same (c.is_idle.ensures c.if-is_idle.true));
    }
