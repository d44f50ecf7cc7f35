use Rattle.std.proofs.Common.{◌≡◌, ℕ, ◌+◌, ◌/◌, ◌≤◌, IsTrue, inl, inr, arith}
use Rattle.fd_tile.specs.Place.{Holds}
use Rattle.fd_tile.specs.Grid.{TargetSize, columns_of, place_of}
use Rattle.fd_cover.specs.Bounds.{is_within}
use Rattle.fd_session.proofs.Nearby.{untrue, met_by, not_below, found_first}
use Rattle.fd_session.proofs.estimate.Area.next_tile.Goals as goal
use Rattle.fd_session.proofs.estimate.Area.next_tile.Goals.{then-column-right, else-column-right, else-left-right-via-then-left-right+else-found-min}
use Rattle.fd_session.proofs.estimate.Area.next_tile.Goals.{else-left-right-via-else-left-right, Joined-column-right}

-- no tile that the box meets comes before the first one that is found
first : (c : Joined-column-right) (size : TargetSize) (n x y : ℕ) → c.args.self.now.columns ≡ columns_of size → c.args.from ≤ n
    → Holds (place_of size n) x y → IsTrue (is_within c.args.self.now.bounds x y) → c.if-column-right.found ≤ n
first c size n x y is on held within =
    found_first size c.args.self.now.bounds n x y c.args.from c.max-from.result c.max-column.result c.if-column-right.found
    (omega (arith, is, c.requires.columns.0)) held within on (rw (← is) c.max-from.ensures)
    (rw (← is) c.max-column.ensures) (rw (← is) (elim c.if-column-right.branch [
      | then-column-right w ↦ inl (omega (arith, w.if-column-right.true, c.div_ceil-right.ensures), w.found-is)
      | else-column-right w ↦ inr (omega (arith, w.if-column-right.false, c.div_ceil-right.ensures), w.found-is)
    ]))

pub returns-then-found-min-clause-missed : goal.returns-then-found-min-clause-missed
returns-then-found-min-clause-missed c = λ size n is on below before x y held. untrue _ (λ within.
    let low = first c.before.before.before size n x y is on held within in omega (arith, low, before))

pub returns-else-left-right-clause-missed : goal.returns-else-left-right-clause-missed
returns-else-left-right-clause-missed c = λ size n is on below none x y held. untrue _ (λ within.
    let columns = c.args.self.now.columns in
    let box = c.args.self.now.bounds in
    let met = rw (← is) at (met_by size box n x y held within) in
    let low = first c.before size n x y is on held within in
    let rows = not_below columns c.args.from n (box.left / 32) ((box.right + 31) / 32) (box.top / 32) ((box.bottom + 31) / 32)
    (omega (arith, c.requires.columns.0)) met.0 met.1 in
    elim c.else-left-right.branch [
      | else-left-right-via-then-left-right+else-found-min w ↦
          let edge : c.div_ceil-bottom.result ≡ (box.bottom + 31) / 32 = omega (arith, c.div_ceil-bottom.ensures) in
          let least = rw edge at w.min.ensures in
          omega (arith, low, below, rows, w.if-found-min.false, least)
      | else-left-right-via-else-left-right w ↦ omega (arith, w.if-left-right.false, met.0.0, met.0.1, c.div_ceil-right.ensures)
    ])
