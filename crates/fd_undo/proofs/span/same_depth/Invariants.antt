use Rattle.std.specs.Prelude.{◌≡◌, ◌≢◌, ℕ, true, false, length, take, replicate}
use Rattle.fd_undo.proofs.span.same_depth.Given as goal

-- the depths so far are all as the first one, or no depth is that of all
abbrev pub invariant-loop-depth : goal.invariant-loop-depth
invariant-loop-depth l = record {
  alike : l.same ≡ true → take l.depth-index l.depths ≡ replicate l.depth-index l.first;
  unlike : l.same ≡ false → (depth : ℕ) → l.depths ≢ replicate (length l.depths) depth;
}
