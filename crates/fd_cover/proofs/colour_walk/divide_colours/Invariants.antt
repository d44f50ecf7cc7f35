use Rattle.std.proofs.Common.{◌≡◌, ℕ, ◌+◌, ◌<◌, get_or}
use Rattle.fd_blend.specs.declared.channel.Colour.{Colour}
use Rattle.fd_cover.specs.declared.shading.Interp.TheVariants.{Linear}
use Rattle.fd_cover.specs.Shade.{colour_of, shaded}
use Rattle.fd_cover.proofs.colour_walk.divide_colours.Given as goal

-- the colours so far
abbrev pub invariant-loop-i : goal.invariant-loop-i
invariant-loop-i l = (k : ℕ) (d : Colour) → k < l.i → get_or l.out k d
    ≡ shaded l.fn.triangle Linear (colour_of l.fn.colours 0) (colour_of l.fn.colours 1) (colour_of l.fn.colours 2) (l.x + k) l.y
