use Rattle.std.specs.Prelude.{◌≡◌, ◌≢◌, true, false, length, take, replicate}
use Rattle.fd_blend.specs.declared.channel.Colour.{Colour}
use Rattle.fd_undo.proofs.span.is_one_colour.Given as goal

-- the colours so far are all as the first one, or no colour is that of all
abbrev pub invariant-loop-colour : goal.invariant-loop-colour
invariant-loop-colour l = record {
  alike : l.same ≡ true → take l.colour-index l.colours ≡ replicate l.colour-index l.first;
  unlike : l.same ≡ false → (colour : Colour) → l.colours ≢ replicate (length l.colours) colour;
}
