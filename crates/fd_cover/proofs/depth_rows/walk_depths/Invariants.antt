use Rattle.std.proofs.Common.{◌≡◌, ◌^◌, ℕ, ◌+◌, ◌<◌, get_or, length}
use Rattle.fd_cover.specs.declared.triangle.Tri.{Tri}
use Rattle.fd_cover.specs.Depth.{depth_at, vertex_depth}
use Rattle.fd_cover.proofs.WalkLemmas.{IsWalk}
use Rattle.fd_cover.proofs.depth_rows.walk_depths.Given as goal

-- the depths so far, and the walk stands at the next pixel
abbrev pub invariant-loop-i : goal.invariant-loop-i
invariant-loop-i l =
    let t : Tri = l.fn.triangle in record {
      depths : (k d : ℕ) → k < l.i → get_or l.out k d ≡ depth_at t l.fn.depths (l.x + k) l.y;
      walk : l.i < length l.fn.out → IsWalk (2 ^ 48) t l.x l.y (vertex_depth l.fn.depths 0) (vertex_depth l.fn.depths 1) (vertex_depth l.fn.depths 2) l.i
          l.accumulator l.fn.walk.step;
    }
