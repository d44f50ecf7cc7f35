-- Working. Clears that follow one another, and what becomes of a tile that is alike.
use Rattle.std.specs.Prelude.{◌≡◌, ℕ, ◌≤◌, ◌++◌, Bool, true, false, List, length}
use Rattle.fd_tile.specs.declared.place.Place.{Place}
use Rattle.fd_tile.specs.Tile.{Pixel, TileImage, IsTileImage, IsFlat, with_colours, with_depths}
use Rattle.fd_undo.specs.declared.shared.AlikeFrame.{AlikeFrame}
use Rattle.fd_undo.specs.Alike.{kept_alike}
use Rattle.fd_undo.specs.Block.{Rise}
use Rattle.fd_undo.specs.Stack.{frames_from}
use Rattle.fd_undo.specs.Undo.{Undo, without_room}
use Rattle.fd_events.specs.Table.{Table}
use Rattle.fd_owner.specs.History.{extend_to}
use Rattle.fd_owner.specs.Owner.{history_of, IsOwner}
use Rattle.fd_owner.specs.Shown.{IsInside}
use Rattle.fd_owner.specs.declared.run.Growing.{Growing}
use Rattle.fd_owner.specs.declared.run.Run.{Run}

-- the tile with this colour and this depth everywhere
abbrev pub with_all : TileImage → Pixel → Bool → TileImage
with_all t q deep = record (with_depths (with_colours t q.0) q.1) { deep = deep }

-- the stack with frames on top that keep all of a place each, up to so many in all
abbrev pub with_alike : Undo → Place → List AlikeFrame → ℕ → Undo
with_alike u p frames to = without_room u.opens_fresh (u.frames ++ frames_from (length u.frames) (kept_alike p frames) to)

-- a tile that isn't made and has one colour and one depth, at a position
pub record StandsAlike (table : Table) (from : ℕ) (q : Pixel) (t : TileImage) (u : Undo) : Type 0 where
  pub inside : IsInside t.place table
  pub filled : IsTileImage t
  pub colours : IsFlat t.place t.rows q.0
  pub depths : IsFlat t.place t.depths q.1
  pub unmade : t.made ≡ false
  pub owner : IsOwner t u
  pub at : length u.frames ≡ from

-- tile t' and stack u' stand for the history of t and u that went on to a position
pub record StandsOnTo (table : Table) (to : ℕ) (t : TileImage) (u : Undo) (t' : TileImage) (u' : Undo) : Type 0 where
  pub owner : IsOwner t' u'
  pub history : history_of t' u' ≡ extend_to table t.place to (history_of t u)

-- a tile is deep where it was, and where it has to be
pub record IsDeepEnough (t : TileImage) (asked deep : Bool) : Type 0 where
  pub kept : t.deep ≡ true → deep ≡ true
  pub wanted : asked ≡ true → deep ≡ true

-- the events between two positions are clears, or write nothing: they make each such tile, deep enough, one of this colour and this depth, and these frames
-- keep what they overwrite
pub record IsRun (table : Table) (from to : ℕ) (before after : Pixel) (deep : Bool) (frames : List AlikeFrame) : Type 0 where
  pub order : from ≤ to
  pub last : to ≤ length table.events
  pub rise : (p : Place) → Rise from (kept_alike p frames) to
  pub depths : deep ≡ false → after.1 ≡ 65535
  pub past : (t : TileImage) (u : Undo) (d : Bool) → StandsAlike table from before t u → IsDeepEnough t deep d
      → StandsOnTo table to t u (with_all t after d) (with_alike u t.place frames to)

abbrev pub Grows : Table → ℕ → Pixel → Growing → Type 0
Grows table from before g = IsRun table from g.to before g.after g.deep g.frames.items

abbrev pub IsRunOf : Table → Run → Type 0
IsRunOf table r = IsRun table r.from r.to r.before r.after r.deep r.frames
