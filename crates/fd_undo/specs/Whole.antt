-- Working. Spans that have all rows of a place.
use Rattle.std.specs.Prelude.{◌≡◌, ◌⊎◌, ℕ, ◌+◌, ◌<◌, ◌≤◌, List, length, slice_index_or, IsSomeAnd, false}
use Rattle.fd_tile.specs.declared.place.Place.{Place}
use Rattle.fd_tile.specs.Tile.{TileImage, IsFlat}
use Rattle.fd_undo.specs.Span.{Span}
use Rattle.fd_undo.specs.Rows.{no_span}

-- a span has the whole of row y of a place
pub record HasWholeRow (p : Place) (y : ℕ) (s : Span) : Type 0 where
  pub x : s.x ≡ p.left
  pub len : s.len ≡ p.width
  pub from : s.y ≤ y
  pub to : y < s.y + s.rows

-- one of the spans has it
pub record AnyHasRow (p : Place) (y : ℕ) (spans : List Span) : Type 0 where
  pub place : ℕ
  pub within : place < length spans
  pub has : HasWholeRow p y (slice_index_or spans place no_span)

-- each row of the place is one of the spans'
pub record HaveAllRows (p : Place) (spans : List Span) : Type 0 where
  pub rows : (y : ℕ) → p.top ≤ y → y < p.top + p.height → AnyHasRow p y spans

-- a span is as deep as all pixels of a tile: of one that isn't deep, or all of one depth
abbrev pub IsAsDeep : TileImage → Span → Type 0
IsAsDeep t s = ((t.deep ≡ false) × IsFlat t.place t.depths 65535) ⊎ IsSomeAnd s.same_depth (λ depth. IsFlat t.place t.depths depth)

-- a span has whole rows of a tile, each pixel with its colour in the list, and they are as deep as all its pixels
pub record AreWholeRows (t : TileImage) (s : Span) : Type 0 where
  pub wide : s.len ≡ t.place.width
  pub coloured : s.one_colour ≡ false
  pub flat : IsAsDeep t s

-- a place has all pixels of a span
pub record HoldsSpan (p : Place) (s : Span) : Type 0 where
  pub from_left : p.left ≤ s.x
  pub to_right : s.x + s.len ≤ p.left + p.width
  pub from_top : p.top ≤ s.y
  pub to_bottom : s.y + s.rows ≤ p.top + p.height
