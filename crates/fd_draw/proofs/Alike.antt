-- A clear on a tile whose pixels are all alike.
use Rattle.std.proofs.Common.{◌≡◌, Bool, true, List, [], ◌∷◌, ◌++◌, ℕ, arith}
use Rattle.std.proofs.lemmas.List.{length_push}
use Rattle.fd_blend.specs.declared.channel.Colour.{Colour}
use Rattle.fd_blend.specs.Channel.{fresh}
use Rattle.fd_tile.specs.Place.{Holds}
use Rattle.fd_tile.specs.Tile.{TileImage, IsTileImage, IsFlat, pixel_of}
use Rattle.fd_undo.specs.Frame.{KeptPixel, alike}
use Rattle.fd_undo.specs.Undo.{without_room}
use Rattle.fd_undo.proofs.FrameLemmas.{older-push, top-push}
use Rattle.fd_undo.proofs.Pixelwise.{value_in-same, kept_at-alike, Inside-alike}
use Rattle.fd_events.specs.declared.effect.Clear.{Clear}
use Rattle.fd_draw.specs.Paints.{Paints}
use Rattle.fd_draw.specs.Written.{as_it_is, cleared, with_cleared}
use Rattle.fd_draw.specs.Writing.{keep_each}
use Rattle.fd_draw.proofs.Painting.{PaintsIn}
use Rattle.fd_draw.proofs.PixelTests.{Paints-filled}

module _ (fresh_below : Bool) (t : TileImage) (colour : Colour) (depth : ℕ) (frames : List (List KeptPixel)) (filled : IsTileImage t)
    (flat : IsFlat t.place t.rows colour)
    (deep : IsFlat t.place t.depths depth) where
  abbrev frame : List KeptPixel
  frame = alike t.place (colour, depth)

  pixel_is : (x y : ℕ) → Holds t.place x y → pixel_of t x y ≡ (colour, depth)
  pixel_is x y held =
      cc (value_in-same t.place t.rows colour fresh x y filled.colours flat held, value_in-same t.place t.depths depth 65535 x y filled.depths deep held)

  -- all of it is kept in a frame that was empty
  kept_alike : PaintsIn (λ _ _. true) as_it_is keep_each t (without_room fresh_below (frames ++ [] ∷ [])) t (without_room fresh_below (frames ++ frame ∷ []))
  kept_alike = grind (arith, older-push, length_push, top-push, pixel_is, kept_at-alike, Inside-alike)

  pub Paints-alike : (clear : Clear) → Paints (λ _ _. cleared clear) keep_each t (without_room fresh_below (frames ++ [] ∷ [])) (with_cleared clear t)
      (without_room fresh_below (frames ++ frame ∷ []))
  Paints-alike clear = Paints-filled clear kept_alike
