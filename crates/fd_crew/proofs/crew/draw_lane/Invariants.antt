use Rattle.std.proofs.Common.{◌≡◌, ◌≤◌, ◌-◌, ◌⊎◌, length}
use Rattle.fd_owner.specs.History.{position}
use Rattle.fd_crew.specs.Lanes.{IsPassed}
use Rattle.fd_crew.proofs.Laning.{Ran}
use Rattle.fd_crew.proofs.crew.draw_lane.Given as goal

abbrev pub invariant-loop-number : goal.invariant-loop-number
invariant-loop-number g l =
    let old = g.L.Lane.shown l.initial.lane in
    let now = g.L.Lane.shown l.lane in record {
      seat : g.S.Post.stands l.course.fence.now l.seat;
      share : (g.S.Post.view l.seat).share ≡ (g.S.Post.view l.initial.seat).share;
      low : (g.S.Post.view l.seat).low ≡ (g.S.Post.view l.initial.seat).low;
      seen : (g.S.Post.view l.seat).seen ≤ (g.S.Post.view l.initial.seat).seen;
      found : l.found ≡ l.course.table.now;
      fits : g.L.Lane.fits l.lane l.course.table.now;
      ran : Ran l.course.table.now old now;
      passed : IsPassed (g.G.Gate.opened l.course.gate.now l.number) old now;
      within : (position now.history ≤ l.course.fence.now.table.shared.key.target) ⊎ (now.history ≡ old.history);
    }

abbrev pub decreases-loop-number : goal.decreases-loop-number
decreases-loop-number g l = length l.course.table.now.events - position (g.L.Lane.shown l.lane).history
