-- Working. Owners that stand at another position than the session, at which their tile is the same.
use Rattle.std.specs.Prelude.{◌≡◌, ℕ, ◌<◌, ◌≤◌, false, List, Option, Some, None, All, length, slice_index_or}
use Rattle.fd_tile.specs.Grid.{TargetSize, tile_count}
use Rattle.fd_events.specs.Table.{Table, IsTable}
use Rattle.fd_owner.specs.Shown.{Shown}
use Rattle.fd_owner.specs.Untouched.{IsUnchanged}
use Rattle.fd_session.specs.Held.{Stands, places_of, first_places, size_of}

-- The owner stands at a position at which its tile is as at position k.
pub record StandsNear (table : Table) (k : ℕ) (owner : Shown) : Type 0 where
  pub at : ℕ
  pub stands : Stands false table at owner
  pub within : at ≤ length table.events
  pub alike : IsUnchanged table at k owner.place

-- The owner has come to this position, on its place.
pub record IsBrought (table : Table) (to : ℕ) (old new : Shown) : Type 0 where
  pub place : new.place ≡ old.place
  pub stands : Stands false table to new

-- Wherever its tile was as at no lower position than this one, the owner's is as at this one.
pub record IsTakenBack (to : ℕ) (old new : Shown) : Type 0 where
  pub place : new.place ≡ old.place
  pub near : (table : Table) (k : ℕ) → to ≤ k → StandsNear table k old → StandsNear table to new

-- There is one owner for each tile of the target, in the order of the tiles, and the tile of each is as at position k.
pub record HoldsNear (table : Table) (size : TargetSize) (k : ℕ) (owners : List Shown) : Type 0 where
  pub valid : IsTable table
  pub sized : size ≡ size_of table
  pub places : places_of owners ≡ first_places size (tile_count size)
  pub stand : All (StandsNear table k) owners
  pub reached : k ≤ length table.events

-- From number a up to number b this holds of the owners, and of all others that.
pub record Between (P Q : Shown → Type 0) (a b : ℕ) (owners : List Shown) : Type 0 where
  pub ahead : (n : ℕ) (d : Shown) → a ≤ n → n < b → n < length owners → P (slice_index_or owners n d)
  pub before : (n : ℕ) (d : Shown) → n < a → n < length owners → Q (slice_index_or owners n d)
  pub past : (n : ℕ) (d : Shown) → b ≤ n → n < length owners → Q (slice_index_or owners n d)

-- There is no such number, or n is less.
abbrev pub IsBefore : ℕ → Option ℕ → Type 0
IsBefore n None = Unit {0}
IsBefore n (Some m) = n < m
