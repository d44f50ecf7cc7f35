use Rattle.std.proofs.Common.{◌≡◌, ℕ, List, [], sym, ap, ◌∙◌}
use Rattle.fd_blend.specs.declared.channel.Colour.{Colour}
use Rattle.fd_blend.specs.Channel.{fresh}
use Rattle.fd_tile.specs.declared.place.Place.{Place}
use Rattle.fd_tile.specs.Place.{over_place}
use Rattle.fd_tile.specs.Tile.{Pixel, TileImage, fresh_pixel, painted, pixel_of, pixels_of}
use Rattle.fd_tile.proofs.Pixels.{value_in-over_place, over_place_same}
use Rattle.fd_owner.specs.History.{History, fresh_history}
use Rattle.fd_owner.specs.Shown.{Shown}
use Rattle.worked_tiles.proofs.tests.history.fresh_owner.Goals as goal

pixels_painted : (p : Place) → pixels_of (painted p (λ _ _. fresh_pixel)) ≡ over_place p (λ _ _. fresh_pixel)
pixels_painted p =
    over_place_same p (λ x y. pixel_of (painted p (λ _ _. fresh_pixel)) x y) (λ _ _. fresh_pixel)
    (λ x y held. ap (λ (c : Colour). (c, (pixel_of (painted p (λ _ _. fresh_pixel)) x y).1)) (value_in-over_place p (λ _ _. fresh_pixel.0) x y fresh held)
    ∙ ap (λ (d : ℕ). (fresh_pixel.0, d)) (value_in-over_place p (λ _ _. fresh_pixel.1) x y 65535 held))

opened : (place : Place) (tile : TileImage) → tile ≡ painted place (λ _ _. fresh_pixel)
    → (let h : History = record { opening = pixels_of tile; frames = [] } in h) ≡ fresh_history tile.place
opened place tile is =
    ap (λ (t : TileImage). let h : History = record { opening = pixels_of t; frames = [] } in h) is
    ∙ ap (λ (rows : List (List Pixel)). let h : History = record { opening = rows; frames = [] } in h) (pixels_painted place)
    ∙ ap (λ (t : TileImage). fresh_history t.place) (sym is)

pub returns-clause-history : goal.returns-clause-history
returns-clause-history c =
    ap (λ (s : Shown). s.history) c.of.ensures
    ∙ opened c.place.result c.in_ok-fresh.field-0 c.in_ok-fresh.ensures.painted
    ∙ sym (ap (λ (s : Shown). fresh_history s.place) c.of.ensures)
