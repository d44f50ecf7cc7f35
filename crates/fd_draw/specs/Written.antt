-- Working. What becomes of a pixel where a clear or a triangle writes it.
use Rattle.std.specs.Prelude.{ℕ, List, [], ◌∷◌, if◌then◌else◌}
use Rattle.fd_blend.specs.declared.channel.Colour.{Colour}
use Rattle.fd_blend.specs.Blend.{blend}
use Rattle.fd_cover.specs.declared.shading.Interp.{Interp}
use Rattle.fd_events.specs.declared.pipeline.Pipeline.{Pipeline}
use Rattle.fd_events.specs.Draw.{Triangle}
use Rattle.fd_events.specs.Image.{is_drawn, source_of}
use Rattle.fd_tile.specs.Tile.{Pixel, TileImage, with_colours, with_depths}
use Rattle.fd_events.specs.declared.effect.Clear.{Clear}
use Rattle.fd_events.specs.declared.effect.Clear.TheVariants.{Colours, Depths}

-- a clear's colour, or its depth
abbrev pub cleared : Clear → Pixel → Pixel
cleared (Colours colour) before = (colour, before.1)
cleared (Depths depth) before = (before.0, depth)

-- the tile with it everywhere
abbrev pub with_cleared : Clear → TileImage → TileImage
with_cleared (Colours colour) t = with_colours t colour
with_cleared (Depths depth) t = with_depths t depth

-- a pixel that stays
abbrev pub as_it_is : ℕ → ℕ → Pixel → Pixel
as_it_is x y before = before

-- the colour that a triangle leaves where it is drawn
abbrev pub colour_blended : Triangle → Interp → Pipeline → ℕ → ℕ → Colour → Colour
colour_blended t interp s x y before = blend s.blend s.factor (source_of t interp x y) before

-- the pixel that it leaves there with the depth test off: the depth stays
abbrev pub pixel_blended : Triangle → Interp → Pipeline → ℕ → ℕ → Pixel → Pixel
pixel_blended t interp s x y before = (colour_blended t interp s x y before.0, before.1)

-- what is kept of a pixel by a triangle, which may fail the depth test there
abbrev pub kept_by_triangle : Triangle → Pipeline → ℕ → ℕ → Pixel → List Pixel
kept_by_triangle t s x y before = if is_drawn t s x y before.1 then before ∷ [] else []
