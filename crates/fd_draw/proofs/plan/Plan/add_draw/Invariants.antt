use Rattle.std.proofs.Common.{◌≡◌, ◌≤◌, ◌+◌, ◌*◌, ◌-◌, drop, length}
use Rattle.std.specs.List.{sum_by}
use Rattle.fd_events.specs.Draw.{triangles_of}
use Rattle.fd_draw.specs.Demand.{triangle_pixels, triangle_spans}
use Rattle.fd_draw.proofs.Triangles.{IsPlannedTo}
use Rattle.fd_draw.proofs.plan.Plan.add_draw.Given as goal

-- what was counted and what the triangles that are left write is what all write; where there is room, all that were found are kept
abbrev pub invariant-loop-next : goal.invariant-loop-next
invariant-loop-next l = record {
  spans : l.self.demand.spans + sum_by (triangle_spans l.state l.fn.place) (drop l.from (triangles_of l.draw))
      ≡ sum_by (triangle_spans l.state l.fn.place) (triangles_of l.draw);
  pixels : l.self.demand.pixels + sum_by (triangle_pixels l.state l.fn.place) (drop l.from (triangles_of l.draw))
      ≡ sum_by (triangle_pixels l.state l.fn.place) (triangles_of l.draw);
  within : l.from ≤ length (triangles_of l.draw);
  few_spans : l.self.demand.spans ≤ 1024 * l.from;
  few_pixels : l.self.demand.pixels ≤ 1024 * l.from;
  kept : IsPlannedTo l.draw l.state l.fn.place l.self l.from;
}

abbrev pub decreases-loop-next : goal.decreases-loop-next
decreases-loop-next l = length (triangles_of l.draw) - l.from
