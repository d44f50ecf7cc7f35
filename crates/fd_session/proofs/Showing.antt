-- What an owner shows of a pixel, and of a row of its tile.
use Rattle.std.proofs.Common.{◌≡◌, ℕ, zero, suc, ◌+◌, ◌-◌, Bool, List, All, get_or, map, drop, ap, ◌∙◌, arith}
use Rattle.std.specs.List.{range_with_len}
use Rattle.fd_blend.specs.declared.channel.Colour.{Colour}
use Rattle.fd_tile.specs.Place.{Holds}
use Rattle.fd_tile.specs.Tile.{Pixel, pixel_in, row_in}
use Rattle.fd_tile.proofs.Pixels.{HasRow-from_Holds}
use Rattle.fd_events.specs.Table.{Table}
use Rattle.fd_events.specs.Image.{colour_at, pixel_at}
use Rattle.fd_owner.specs.History.{last_image, drawn_history}
use Rattle.fd_owner.specs.Shown.{Shown}
use Rattle.fd_owner.proofs.Drawn.{last_drawn, pixel_drawn}
use Rattle.fd_owner.proofs.Pictures.{map_mapped, row_in-over_place}
use Rattle.fd_session.specs.Held.{Stands, ShowsAt}
use Rattle.fd_session.proofs.Frames.{last_kept}

-- the part of a row from column x on
row_part : (f : ℕ → Colour) (a n i x m : ℕ) → a + i ≡ x → i + m ≡ n → drop i (map f (range_with_len a n)) ≡ map f (range_with_len x m)
row_part f a n zero x m at rest =
    let same : a ≡ x = omega (arith, at) in
    let all : n ≡ m = omega (arith, rest) in
    ap (λ k. map f (range_with_len k n)) same ∙ ap (λ k. map f (range_with_len x k)) all
row_part f a zero (suc i) x m at rest = absurd (omega (arith, rest))
row_part f a (suc n) (suc i) x m at rest = row_part f (a + 1) n i x m (omega (arith, at)) (omega (arith, rest))

-- an owner at a position shows its image
pub shows_there : (f : Bool) (table : Table) (k : ℕ) (o : Shown) → Stands f table k o → ShowsAt table k o
shows_there f table k o stands = ap last_image stands.history ∙ last_kept f o.place (drawn_history table o.place k)

pub all_show : (f : Bool) (table : Table) (k : ℕ) (owners : List Shown) → All (Stands f table k) owners → All (ShowsAt table k) owners
all_show f table k owners stand n d below = shows_there f table k (get_or owners n d) (stand n d below)

module _ (table : Table) (k : ℕ) (o : Shown) (x y : ℕ) (shown : ShowsAt table k o) (holds : Holds o.place x y) where
  pub owner_shows : pixel_in o.place (last_image o.history) x y ≡ pixel_at table k x y
  owner_shows = ap (λ (rows : List (List Pixel)). pixel_in o.place rows x y) shown ∙ pixel_drawn table o.place k x y holds

  -- a row of its tile from column x on
  pub row_shows : (row : List Colour) → row ≡ drop (x - o.place.left) (map (λ (q : Pixel). q.0) (row_in o.place (last_image o.history) y))
      → row ≡ map (λ column. colour_at table k column y) (range_with_len x (o.place.left + o.place.width - x))
  row_shows row read =
      let colours : ℕ → Colour = λ column. colour_at table k column y in
      let left = holds.from_left in
      let right = holds.to_right in
      read
      ∙ ap (drop (x - o.place.left))
      (ap (λ (rows : List (List Pixel)). map (λ (q : Pixel). q.0) (row_in o.place rows y)) (shown ∙ last_drawn table o.place k)
      ∙ ap (map (λ (q : Pixel). q.0)) (row_in-over_place o.place (λ a b. pixel_at table k a b) y (HasRow-from_Holds o.place x y holds))
      ∙ map_mapped (λ column. pixel_at table k column y) (λ (q : Pixel). q.0) (range_with_len o.place.left o.place.width))
      ∙ row_part colours o.place.left o.place.width (x - o.place.left) x (o.place.left + o.place.width - x) (omega arith) (omega arith)
