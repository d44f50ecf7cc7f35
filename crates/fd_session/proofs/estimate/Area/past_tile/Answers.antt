use Rattle.std.proofs.Common.{◌≡◌, ℕ, ◌<◌, ◌-◌, ◌*◌, ◌/◌, ap, arith}
use Rattle.fd_session.proofs.Nearby.{untrue, met_by, not_past}
use Rattle.fd_session.proofs.estimate.Area.past_tile.Goals as goal

pub returns : goal.returns
returns c = record {
  missed = λ size n is past x y held. untrue _ (λ within.
      let columns = c.args.self.now.columns in
      let box = c.args.self.now.bounds in
      let some : 0 < columns = omega (arith, c.requires.columns.0) in
      let met = rw (← is) at (met_by size box n x y held within) in
      let below = not_past columns n n (box.left / 32) c.div_ceil-right.result (box.top / 32) c.div_ceil-bottom.result some
      (met.0.0, omega (arith, met.0.1, c.div_ceil-right.ensures)) (met.1.0, omega (arith, met.1.1, c.div_ceil-bottom.ensures)) in
      let rows : c.saturating_sub.result * columns ≡ (c.div_ceil-bottom.result - 1) * columns = ap (λ (k : ℕ). k * columns) c.saturating_sub.ensures in
      omega (arith, past, below, rows));
}
