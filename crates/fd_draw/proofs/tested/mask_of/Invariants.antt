use Rattle.std.proofs.Common.{◌≡◌, ℕ, ◌+◌, ◌-◌, ◌<◌, ◌≤◌, ◌^◌}
use Rattle.std.specs.Prelude.{is_some}
use Rattle.fd_events.specs.Picture.{texel}
use Rattle.fd_draw.specs.Mask.{has_bit}
use Rattle.fd_draw.proofs.tested.mask_of.Given as goal

-- the mask has the bits of the columns from x on
abbrev pub invariant-loop-x : goal.invariant-loop-x
invariant-loop-x l = record {
  from_left : l.run.left ≤ l.x;
  to_right : l.x ≤ l.run.right;
  bits : (k : ℕ) → k < l.run.right - l.x → has_bit l.mask k ≡ is_some (texel l.picture (l.x + k) l.run.y);
  bound : l.mask < 2 ^ (l.run.right - l.x);
}

abbrev pub decreases-loop-x : goal.decreases-loop-x
decreases-loop-x l = l.x
