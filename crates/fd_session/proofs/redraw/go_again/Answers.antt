use Rattle.std.proofs.Common.{◌∙◌, arith}
use Rattle.fd_session.proofs.redraw.go_again.Goals as goal

pub go_forward-requires-after_bounds : goal.go_forward-requires-after_bounds
go_forward-requires-after_bounds g c κs outlives =
    rw c.requires.whole (record {
      stand = c.take_all_before.ensures.left.each;
      ahead = c.take_all_before.ensures.high;
      forgotten = λ t. absurd (cc);
      within = c.requires.within;
      crewed = c.requires.workers;
    })

pub returns-clause-low : goal.returns-clause-low
returns-clause-low g c = omega (arith, c.take_all_before.ensures.low, c.unwrap_or.ensures, c.go_forward.ensures.comes.ahead)

pub returns-clause-left : goal.returns-clause-left
returns-clause-left g c =
    let left = rw (c.requires.whole, ← c.unwrap_or.ensures) at c.go_forward.ensures.comes.left in
    record { places = left.places ∙ c.take_all_before.ensures.left.places; each = left.each }
