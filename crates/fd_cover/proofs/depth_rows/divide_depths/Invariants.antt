use Rattle.std.proofs.Common.{◌≡◌, ℕ, ◌+◌, ◌<◌, get_or}
use Rattle.fd_cover.specs.Depth.{depth_at}
use Rattle.fd_cover.proofs.depth_rows.divide_depths.Given as goal

-- the depths so far
abbrev pub invariant-loop-i : goal.invariant-loop-i
invariant-loop-i l = (k d : ℕ) → k < l.i → get_or l.out k d ≡ depth_at l.fn.triangle l.fn.depths (l.x + k) l.y
