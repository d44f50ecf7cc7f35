-- Working. Where a tile lies on its target.
use Rattle.std.specs.Prelude.{ℕ, ◌+◌, ◌<◌, ◌≤◌, List, map}
use Rattle.std.specs.List.{range_with_len}
use Rattle.fd_tile.specs.declared.place.Place.{Place}
use Rattle.fd_snap.specs.Limits.{most_pixels}
use Rattle.fd_tile.specs.declared.place.TheConstants.{TILE_SIDE}

-- pixel (x, y) lies in the place: its right and bottom borders are exclusive
pub record Holds (p : Place) (x y : ℕ) : Type 0 where
  pub from_left : p.left ≤ x
  pub to_right : x < p.left + p.width
  pub from_top : p.top ≤ y
  pub to_bottom : y < p.top + p.height

-- row y of the target crosses the place
pub record HasRow (p : Place) (y : ℕ) : Type 0 where
  pub from_top : p.top ≤ y
  pub to_bottom : y < p.top + p.height

-- a place that a tile can have
pub record IsTilePlace (p : Place) : Type 0 where
  pub wide : 1 ≤ p.width
  pub at_most_wide : p.width ≤ TILE_SIDE
  pub high : 1 ≤ p.height
  pub at_most_high : p.height ≤ TILE_SIDE
  pub right : p.left + p.width ≤ most_pixels
  pub bottom : p.top + p.height ≤ most_pixels

-- what f gives at each pixel of the place: rows from the top, each from the left
abbrev pub over_place : {X : Type 0} → Place → (ℕ → ℕ → X) → List (List X)
over_place p f = map (λ y. map (λ x. f x y) (range_with_len p.left p.width)) (range_with_len p.top p.height)
