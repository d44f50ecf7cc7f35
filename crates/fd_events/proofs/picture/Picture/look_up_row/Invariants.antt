use Rattle.std.proofs.Common.{◌≡◌, ℕ, ◌+◌, ◌<◌, get_or, length}
use Rattle.fd_blend.specs.declared.channel.Colour.{Colour}
use Rattle.fd_events.specs.Picture.{texel_or_none}
use Rattle.fd_events.proofs.picture.Picture.look_up_row.Given as goal

-- the pixels so far have their colours
abbrev pub invariant-loop-i : goal.invariant-loop-i
invariant-loop-i l = record {
  size : length l.out ≡ length l.fn.out;
  read : (k : ℕ) (d : Colour) → k < l.i → get_or l.out k d ≡ texel_or_none l.fn.self (l.x + k) l.y;
}
