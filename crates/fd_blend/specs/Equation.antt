-- Promised. The factors and operations of a blend equation.
-- Direct3D 11.3 functional specification, section 17, output merger.
use Rattle.std.specs.Prelude.{ℕ, ◌-◌, ◌*◌, min, max, Bool, true, false, not, ◌&&◌, ◌||◌, pos, ◌+ℤ◌, ◌-ℤ◌}
use Rattle.fd_blend.specs.declared.channel.Colour.{Colour}
use Rattle.fd_blend.specs.declared.channel.Channel.{Channel}
use Rattle.fd_blend.specs.declared.equation.Factor.{Factor}
use Rattle.fd_blend.specs.declared.equation.Factor.TheVariants.{Zero, One, SrcColor, InvSrcColor, SrcAlpha, InvSrcAlpha, DestAlpha, InvDestAlpha}
use Rattle.fd_blend.specs.declared.equation.Factor.TheVariants.{DestColor, InvDestColor, BlendFactor, InvBlendFactor}
use Rattle.fd_blend.specs.declared.equation.BlendOp.{BlendOp}
use Rattle.fd_blend.specs.declared.equation.BlendOp.TheVariants.{Add, Subtract, RevSubtract, Min, Max}
use Rattle.fd_blend.specs.declared.equation.Part.{Part}
use Rattle.fd_blend.specs.Channel.{channel_of}
use Rattle.fd_blend.specs.Unorm.{unorm}

-- the factors that the alpha part may not name
abbrev pub is_colour_factor : Factor → Bool
is_colour_factor SrcColor = true
is_colour_factor InvSrcColor = true
is_colour_factor DestColor = true
is_colour_factor InvDestColor = true
is_colour_factor _ = false

abbrev pub has_colour_factor : Part → Bool
has_colour_factor part = is_colour_factor part.src || is_colour_factor part.dst

-- the factors whose values come from the destination
abbrev pub looks_at_destination : Factor → Bool
looks_at_destination DestAlpha = true
looks_at_destination InvDestAlpha = true
looks_at_destination DestColor = true
looks_at_destination InvDestColor = true
looks_at_destination _ = false

abbrev pub is_add : BlendOp → Bool
is_add Add = true
is_add _ = false

-- the part adds, and neither of its factors' values comes from the destination
abbrev pub adds_unseen : Part → Bool
adds_unseen part = is_add part.op && (not (looks_at_destination part.src) && not (looks_at_destination part.dst))

-- a factor's value at a channel, in units of 1/255, for a blend factor, a source and a destination: a line for each factor, in the specification's order
abbrev pub factor_value : Factor → Channel → Colour → Colour → Colour → ℕ
factor_value Zero channel factor src dst = 0
factor_value One channel factor src dst = 255
factor_value SrcColor channel factor src dst = channel_of channel src
factor_value InvSrcColor channel factor src dst = 255 - channel_of channel src
factor_value SrcAlpha channel factor src dst = src.a
factor_value InvSrcAlpha channel factor src dst = 255 - src.a
factor_value DestAlpha channel factor src dst = dst.a
factor_value InvDestAlpha channel factor src dst = 255 - dst.a
factor_value DestColor channel factor src dst = channel_of channel dst
factor_value InvDestColor channel factor src dst = 255 - channel_of channel dst
factor_value BlendFactor channel factor src dst = channel_of channel factor
factor_value InvBlendFactor channel factor src dst = 255 - channel_of channel factor

-- an operation on a source and a destination channel with their factors: a line for each operation, in the specification's order
abbrev pub combined : BlendOp → ℕ → ℕ → ℕ → ℕ → ℕ
combined Add src dst src_factor dst_factor = unorm (pos (src * src_factor) +ℤ pos (dst * dst_factor))
combined Subtract src dst src_factor dst_factor = unorm (pos (src * src_factor) -ℤ pos (dst * dst_factor))
combined RevSubtract src dst src_factor dst_factor = unorm (pos (dst * dst_factor) -ℤ pos (src * src_factor))
combined Min src dst src_factor dst_factor = min src dst
combined Max src dst src_factor dst_factor = max src dst

-- a channel after its equation
abbrev pub blended : Part → Channel → Colour → Colour → Colour → ℕ
blended part channel factor src dst =
    combined part.op (channel_of channel src) (channel_of channel dst) (factor_value part.src channel factor src dst)
    (factor_value part.dst channel factor src dst)
