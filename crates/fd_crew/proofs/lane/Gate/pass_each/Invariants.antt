use Rattle.std.proofs.Common.{ℕ, ◌<◌, ◌≤◌}
use Rattle.fd_crew.proofs.lane.Gate.pass_each.Given as goal

abbrev pub invariant-loop-event : goal.invariant-loop-event
invariant-loop-event g l = (event : ℕ) → l.fn.from < event → event ≤ l.event → g.Self.Gate.opened l.self l.fn.lane event
