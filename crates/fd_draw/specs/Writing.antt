-- Working. Writing some pixels of a tile, which are kept first.
use Rattle.std.specs.Prelude.{◌≡◌, ◌≤◌, ◌<◌, ℕ, ◌+◌, ◌-◌, Bool, true, false, nat_le, nat_lt, List, [], ◌∷◌, ◌==◌, ◌&&◌, slice_index_or, if◌then◌else◌}
use Rattle.fd_tile.specs.declared.place.Place.{Place}
use Rattle.fd_tile.specs.Place.{Holds, HasRow}
use Rattle.fd_tile.specs.Tile.{Pixel, TileImage, IsTileImage, pixel_of}
use Rattle.fd_undo.specs.Undo.{Undo}
use Rattle.fd_events.specs.declared.pipeline.Pipeline.{Pipeline}
use Rattle.fd_events.specs.declared.effect.Clear.{Clear}
use Rattle.fd_events.specs.declared.effect.Clear.TheVariants.{Colours, Depths}
use Rattle.fd_draw.specs.declared.canvas.Canvas.{Canvas}
use Rattle.fd_draw.specs.declared.run.Run.{Run}
use Rattle.fd_draw.specs.Paints.{Paints}

-- what becomes of pixel (x, y), and what is kept of it, where a region is written
abbrev pub after_where : (ℕ → ℕ → Bool) → (ℕ → ℕ → Pixel → Pixel) → ℕ → ℕ → Pixel → Pixel
after_where region paint x y before = if region x y then paint x y before else before

abbrev pub kept_where : (ℕ → ℕ → Bool) → (ℕ → ℕ → Pixel → List Pixel) → ℕ → ℕ → Pixel → List Pixel
kept_where region keep x y before = if region x y then keep x y before else []

-- each pixel that is written is kept
abbrev pub keep_each : ℕ → ℕ → Pixel → List Pixel
keep_each x y before = before ∷ []

-- the pixels of row y alone
abbrev pub in_row : (ℕ → ℕ → Bool) → ℕ → ℕ → ℕ → Bool
in_row region y x z = (z == y) && region x z

-- the columns from one up to another, in any row
abbrev pub columns_between : ℕ → ℕ → ℕ → ℕ → Bool
columns_between first last x y = nat_le first x && nat_lt x last

-- the rows from one up to another, in any column
abbrev pub rows_between : ℕ → ℕ → ℕ → ℕ → Bool
rows_between first last x y = nat_le first y && nat_lt y last

-- the pixels of a run
abbrev pub in_run : Run → ℕ → ℕ → Bool
in_run run = in_row (columns_between run.left run.right) run.y

-- where a canvas lies
abbrev pub place_on : Canvas → Place
place_on c = c.tile.now.place

-- a place has the pixels of a run
pub record HasRun (run : Run) (p : Place) : Type 0 where
  pub crossed : HasRow p run.y
  pub from_left : p.left ≤ run.left
  pub some : run.left < run.right
  pub to_right : run.right ≤ p.left + p.width

-- a place has the rows from one up to another
pub record HasRows (top bottom : ℕ) (p : Place) : Type 0 where
  pub from_top : p.top ≤ top
  pub some : top < bottom
  pub to_bottom : bottom ≤ p.top + p.height

-- there is room for so many spans and pixels
pub record HasRoom (span_count pixel_count : ℕ) (u : Undo) : Type 0 where
  pub spans : span_count ≤ u.spans_left
  pub pixels : pixel_count ≤ u.pixels_left

-- a canvas still borrows the same tile and the same undo records
pub record IsLentAs (c c' : Canvas) : Type 0 where
  pub tile : c'.tile.ghost_name ≡ c.tile.ghost_name
  pub undo : c'.undo.ghost_name ≡ c.undo.ghost_name

-- on what it borrows each pixel is what `after` makes of it, and the top frame keeps in addition what `replaced` says of it
pub record PaintsOn (after : ℕ → ℕ → Pixel → Pixel) (replaced : ℕ → ℕ → Pixel → List Pixel) (c c' : Canvas) : Type 0 where
  pub lent : IsLentAs c c'
  pub painted : Paints after replaced c.tile.now c.undo.now c'.tile.now c'.undo.now

-- each pixel of a region becomes what `paint` makes of it, what `keep` says of it is kept, and no more than so many spans and pixels are used up
pub record WritesRegion (span_count pixel_count : ℕ) (region : ℕ → ℕ → Bool) (paint : ℕ → ℕ → Pixel → Pixel) (keep : ℕ → ℕ → Pixel → List Pixel)
    (c c' : Canvas) : Type 0 where
  pub lent : IsLentAs c c'
  pub painted : Paints (after_where region paint) (kept_where region keep) c.tile.now c.undo.now c'.tile.now c'.undo.now
  pub spans : c.undo.now.spans_left ≤ c'.undo.now.spans_left + span_count
  pub pixels : c.undo.now.pixels_left ≤ c'.undo.now.pixels_left + pixel_count

-- those of a run, with so many spans
abbrev pub WritesRun : ℕ → Run → (ℕ → ℕ → Pixel → Pixel) → (ℕ → ℕ → Pixel → List Pixel) → Canvas → Canvas → Type 0
WritesRun span_count run = WritesRegion span_count (run.right - run.left) (in_run run)

-- the pixels of a region change, and no other
pub record ChangesRegion (change : ℕ → ℕ → Pixel → Pixel) (region : ℕ → ℕ → Bool) (t t' : TileImage) : Type 0 where
  pub placed : t'.place ≡ t.place
  pub made : t'.made ≡ t.made
  pub deep : t'.deep ≡ t.deep
  pub filled : IsTileImage t'
  pub pixels : (x y : ℕ) → Holds t.place x y → pixel_of t' x y ≡ after_where region change x y (pixel_of t x y)

-- those of a run
abbrev pub ChangesRun : (ℕ → ℕ → Pixel → Pixel) → Run → TileImage → TileImage → Type 0
ChangesRun change run = ChangesRegion change (in_run run)

-- where a draw in a state writes depths, they have a place on a tile
pub record HasDepths (s : Pipeline) (t : TileImage) : Type 0 where
  pub deep : s.depth.enable ≡ true → s.depth.write ≡ true → t.deep ≡ true

-- where a clear is one of depths, its own has
abbrev pub FitsClear : Clear → TileImage → Type 0
FitsClear (Colours colour) t = Unit {0}
FitsClear (Depths depth) t = t.deep ≡ false → depth ≡ 65535

-- a pixel gets its depth of some that begin in a column
abbrev pub depth_stored : List ℕ → ℕ → ℕ → ℕ → Pixel → Pixel
depth_stored depths x column row before = (before.0, slice_index_or depths (column - x) 65535)
