use Rattle.std.proofs.Common.{◌≡◌, ℕ, ◌*◌, ◌<◌, get_or, length, drop}
use Rattle.std.specs.Prelude.{unwrap_or}
use Rattle.fd_blend.specs.declared.channel.Colour.{Colour}
use Rattle.fd_events.specs.Picture.{first_colour, no_colour}
use Rattle.fd_events.proofs.picture.copy_colours.Given as goal

-- the pixels so far have their colours
abbrev pub invariant-loop-i : goal.invariant-loop-i
invariant-loop-i l = record {
  size : length l.out ≡ length l.fn.out;
  read : (k : ℕ) (d : Colour) → k < l.i → get_or l.out k d ≡ unwrap_or (first_colour (drop (4 * k) l.bytes)) no_colour;
}
