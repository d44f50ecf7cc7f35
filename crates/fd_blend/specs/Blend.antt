-- Promised. The output merger: a source drawn over a destination.
-- Direct3D 11.3 functional specification, section 17, output merger.
use Rattle.std.specs.Prelude.{ℕ, Bool, not, ◌&&◌, if◌then◌else◌}
use Rattle.fd_blend.specs.declared.channel.Colour.{Colour}
use Rattle.fd_blend.specs.declared.channel.Channel.{Channel}
use Rattle.fd_blend.specs.declared.channel.Channel.TheVariants.{Red, Green, Blue, Alpha}
use Rattle.fd_blend.specs.declared.equation.Part.{Part}
use Rattle.fd_blend.specs.Blending.{Blending}
use Rattle.fd_blend.specs.Channel.{channel_of}
use Rattle.fd_blend.specs.Equation.{blended}
use Rattle.fd_blend.specs.Mask.{writes}

-- the equation of a channel
abbrev pub part_of : Blending → Channel → Part
part_of state Red = state.rgb
part_of state Green = state.rgb
part_of state Blue = state.rgb
part_of state Alpha = state.alpha

-- a channel outside the mask keeps the destination; with blending off the result is the source
unfoldable pub blended_channel : Blending → Channel → Colour → Colour → Colour → ℕ
blended_channel state channel factor src dst =
    if writes state.mask channel
    then (if state.enable then blended (part_of state channel) channel factor src dst else channel_of channel src)
    else channel_of channel dst

-- without blending and with all channels written, the source takes the destination's place
abbrev pub replaces : Blending → Bool
replaces state =
    not state.enable
    && (writes state.mask Red && (writes state.mask Green && (writes state.mask Blue && writes state.mask Alpha)))

-- the colour that is left where a source is drawn over a destination, with a blend factor
unfoldable pub blend : Blending → Colour → Colour → Colour → Colour
blend state factor src dst = record {
  r = blended_channel state Red factor src dst;
  g = blended_channel state Green factor src dst;
  b = blended_channel state Blue factor src dst;
  a = blended_channel state Alpha factor src dst;
}
