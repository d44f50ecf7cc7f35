-- Working. Square cells of a grid, each with a list of numbers of triangles.
use Rattle.std.specs.Prelude.{◌≡◌, ℕ, ◌+◌, ◌-◌, ◌*◌, ◌/◌, ◌^◌, ◌<◌, ◌≤◌, IsTrue, List, Some, slice_get}
use Rattle.std.specs.List.{Contains}
use Rattle.std.specs.List.Sorted.{IsNonDecreasing}
use Rattle.fd_cover.specs.declared.bounds.Bounds.{Bounds}
use Rattle.fd_cover.specs.declared.triangle.Tri.{Tri}
use Rattle.fd_cover.specs.Bounds.{is_within}
use Rattle.fd_cover.specs.Covers.{covers}
use Rattle.fd_events.specs.Draw.{Triangle}
use Rattle.fd_events.specs.Numbers.{listed_at}
use Rattle.fd_events.specs.Packed.{listed_in}
use Rattle.fd_events.specs.declared.cells.CellGrid.{CellGrid}
use Rattle.fd_events.specs.declared.cells.Cells.{Cells}

-- the column of cells in which a column of pixels lies; the same for rows
abbrev pub cell_over : CellGrid → ℕ → ℕ
cell_over grid x = x / 2 ^ grid.shift

-- the place of a cell among all, counted row by row
abbrev pub cell_place : CellGrid → ℕ → ℕ → ℕ
cell_place grid column row = (row - grid.area.top) * (grid.area.right - grid.area.left) + (column - grid.area.left)

-- the place of the cell in which a pixel lies
abbrev pub cell_at : CellGrid → ℕ → ℕ → ℕ
cell_at grid x y = cell_place grid (cell_over grid x) (cell_over grid y)

-- the grid has a cell in which the pixel lies
abbrev pub HasCell : CellGrid → ℕ → ℕ → Type 0
HasCell grid x y = IsTrue (is_within grid.area (cell_over grid x) (cell_over grid y))

-- the number of cells
abbrev pub cell_count : CellGrid → ℕ
cell_count grid = (grid.area.bottom - grid.area.top) * (grid.area.right - grid.area.left)

pub record IsCellGrid (grid : CellGrid) : Type 0 where
  pub sides : grid.shift < 32
  pub columns : grid.area.left ≤ grid.area.right
  pub rows : grid.area.top ≤ grid.area.bottom

-- a part of the grid, in columns and rows of cells, has the cells of a box's pixels
pub record IsPartUnder (grid : CellGrid) (part box : Bounds) : Type 0 where
  pub left : grid.area.left ≤ part.left
  pub right : part.right ≤ grid.area.right
  pub top : grid.area.top ≤ part.top
  pub bottom : part.bottom ≤ grid.area.bottom
  pub under : (x y : ℕ) → IsTrue (is_within box x y) → HasCell grid x y → IsTrue (is_within part (cell_over grid x) (cell_over grid y))

-- a triangle covers no pixel of a cell
abbrev pub IsBeyond : CellGrid → Tri → ℕ → ℕ → Type 0
IsBeyond grid t column row = (x y : ℕ) → cell_over grid x ≡ column → cell_over grid y ≡ row → IsTrue (covers t x y) → ⊥

-- the cells of the pixels that a triangle covers list its number
abbrev pub ListCovered : CellGrid → List (List ℕ) → ℕ → Tri → Type 0
ListCovered grid lists number t = (x y : ℕ) → IsTrue (covers t x y) → HasCell grid x y → Contains (listed_at lists (cell_at grid x y)) number

-- so do those of each triangle
abbrev pub ListAllCovered : CellGrid → List (List ℕ) → List Triangle → Type 0
ListAllCovered grid lists ts = (i : ℕ) (t : Triangle) → slice_get ts i ≡ Some t → ListCovered grid lists i t.corners

-- the lists rise, and the cell of a pixel lists every triangle that covers it
pub record ListTriangles (cells : Cells) (ts : List Triangle) : Type 0 where
  pub grid : IsCellGrid cells.grid
  pub rise : (cell : ℕ) → IsNonDecreasing (listed_in cells.lists cell)
  pub listed : (i : ℕ) (t : Triangle) (x y : ℕ) → slice_get ts i ≡ Some t → IsTrue (covers t.corners x y) → HasCell cells.grid x y
      → Contains (listed_in cells.lists (cell_at cells.grid x y)) i
