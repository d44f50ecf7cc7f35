use Rattle.std.proofs.Common.{◌≡◌, ◌⊎◌, take, drop}
use Rattle.fd_crew.specs.Lanes.{Worked, ArePassed}
use Rattle.fd_crew.proofs.crew.draw_lanes.Given as goal

abbrev pub invariant-loop-index : goal.invariant-loop-index
invariant-loop-index g l = record {
  found : l.found ≡ l.course.table.now;
  seat : g.S.Post.stands l.course.fence.now l.seat;
  worked : Worked g.L.Lane.shown g.L.Lane.fits l.course.table.now l.course.fence.now.table.shared.key.target (g.S.Post.view l.initial.seat)
      (g.S.Post.view l.seat)
      (take l.index l.initial.lanes) (take l.index l.lanes);
  wanted : ((g.S.Post.view l.seat).low ≡ (g.S.Post.view l.initial.seat).low) ⊎ g.L.Lane.wanted;
  passed : ArePassed g.L.Lane.shown (g.G.Gate.opened l.course.gate.now) l.first (take l.index l.initial.lanes) (take l.index l.lanes);
  rest : drop l.index l.lanes ≡ drop l.index l.initial.lanes;
}
