-- Working. What a contract sees of a span.
use Rattle.std.specs.Prelude.{◌≡◌, ℕ, ◌+◌, ◌*◌, ◌<◌, Bool, true, List, length, replicate, slice_index_or, IfSome, Option, refl}
use Rattle.fd_blend.specs.declared.channel.Colour.{Colour}
use Rattle.fd_blend.specs.Channel.{fresh}
use Rattle.fd_tile.specs.declared.place.Place.{Place}
use Rattle.std.specs.Coded.{Coded, code_by, coded×, coded_ℕ, coded_bool, coded_option}

-- so many rows from row y on, each with so many pixels from column x on; whether one colour in the stack's list is that of all of them, or there is one
-- for each of them, row after row; and the depth of all of them, unless their depths stand in the stack's list
pub record Span : Type 0 where
  pub x : ℕ
  pub y : ℕ
  pub len : ℕ
  pub rows : ℕ
  pub one_colour : Bool
  pub same_depth : Option ℕ

-- it is stored as the tuple of its fields
abbrev pub span_code : Coded Span
span_code =
    code_by (ℕ × (ℕ × (ℕ × (ℕ × (Bool × Option ℕ)))))
    (coded× coded_ℕ (coded× coded_ℕ (coded× coded_ℕ (coded× coded_ℕ (coded× coded_bool (coded_option coded_ℕ))))))
    (λ s. (s.x, (s.y, (s.len, (s.rows, (s.one_colour, s.same_depth))))))
    (λ q. record { x = q.0; y = q.1.0; len = q.1.1.0; rows = q.1.1.1.0; one_colour = q.1.1.1.1.0; same_depth = q.1.1.1.1.1 }) (λ _. refl)

-- a span with one row more, whose values are listed as its own ones are, and which lies right below them
pub record IsGrown (s row grown : Span) : Type 0 where
  pub coloured : row.one_colour ≡ s.one_colour
  pub deep : row.same_depth ≡ s.same_depth
  pub x : row.x ≡ s.x
  pub y : row.y ≡ s.y + s.rows
  pub len : row.len ≡ s.len
  pub is : grown ≡ record s { rows = s.rows + 1 }

-- the span of one row with these colours and depths
pub record IsRowOf (colours : List Colour) (depths : List ℕ) (s : Span) : Type 0 where
  pub equal : length depths ≡ length colours
  pub one : s.rows ≡ 1
  pub len : s.len ≡ length colours
  pub coloured : s.one_colour ≡ true → (0 < length colours) × (colours ≡ replicate (length colours) (slice_index_or colours 0 fresh))
  pub deep : IfSome s.same_depth (λ depth. depths ≡ replicate (length depths) depth)

-- the span of a place with these colours and depths, which stand row after row
pub record IsSpanOf (p : Place) (colours : List Colour) (depths : List ℕ) (s : Span) : Type 0 where
  pub x : s.x ≡ p.left
  pub y : s.y ≡ p.top
  pub len : s.len ≡ p.width
  pub rows : s.rows ≡ p.height
  pub some : 0 < length colours
  pub counted : length colours ≡ p.height * p.width
  pub equal : length depths ≡ length colours
  pub coloured : s.one_colour ≡ true → colours ≡ replicate (length colours) (slice_index_or colours 0 fresh)
  pub deep : IfSome s.same_depth (λ depth. depths ≡ replicate (length depths) depth)
