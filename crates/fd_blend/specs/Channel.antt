-- Promised. Colours and their four channels.
use Rattle.std.specs.Prelude.{ℕ}
use Rattle.fd_blend.specs.declared.channel.Colour.{Colour}
use Rattle.fd_blend.specs.declared.channel.Channel.{Channel}
use Rattle.fd_blend.specs.declared.channel.Channel.TheVariants.{Red, Green, Blue, Alpha}

-- one channel of a colour
abbrev pub channel_of : Channel → Colour → ℕ
channel_of Red colour = colour.r
channel_of Green colour = colour.g
channel_of Blue colour = colour.b
channel_of Alpha colour = colour.a

-- the colour of a pixel that nothing was drawn on
abbrev pub fresh : Colour
fresh = record { r = 0; g = 0; b = 0; a = 0 }
