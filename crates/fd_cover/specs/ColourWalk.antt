-- Working. How the colours of a linear triangle are walked along its rows.
use Rattle.std.specs.Prelude.{◌≡◌, ℕ, ◌*◌, ◌/◌, ◌^◌, ◌≤◌, List, slice_index}
use Rattle.fd_blend.specs.declared.channel.Colour.{Colour}
use Rattle.fd_cover.specs.declared.triangle.Tri.{Tri}
use Rattle.fd_cover.specs.declared.colour_walk.ColourWalk.{ColourWalk}
use Rattle.fd_cover.specs.Gradient.{IsStep}
use Rattle.fd_cover.specs.Shade.{area_of, colour_of}

-- twice the double area is the divisor, and each channel has its step
pub record IsColourWalk (t : Tri) (colours : List Colour) (walk : ColourWalk) : Type 0 where
  pub divisor : walk.divisor.divisor ≡ 2 * area_of t
  pub small : area_of t ≤ 2 ^ 47
  pub red : IsStep (2 ^ 56) t (colour_of colours 0).r (colour_of colours 1).r (colour_of colours 2).r (slice_index walk.steps 0)
  pub green : IsStep (2 ^ 56) t (colour_of colours 0).g (colour_of colours 1).g (colour_of colours 2).g (slice_index walk.steps 1)
  pub blue : IsStep (2 ^ 56) t (colour_of colours 0).b (colour_of colours 1).b (colour_of colours 2).b (slice_index walk.steps 2)
  pub alpha : IsStep (2 ^ 56) t (colour_of colours 0).a (colour_of colours 1).a (colour_of colours 2).a (slice_index walk.steps 3)

-- the colour of the highest bytes of four elements of 64 bits
abbrev pub top_colour : List ℕ → Colour
top_colour elements = record {
  r = slice_index elements 0 / 2 ^ 56;
  g = slice_index elements 1 / 2 ^ 56;
  b = slice_index elements 2 / 2 ^ 56;
  a = slice_index elements 3 / 2 ^ 56;
}
