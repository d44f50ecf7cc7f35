-- Working. Lists of numbers that grow.
use Rattle.std.specs.Prelude.{◌≡◌, ℕ, ◌≤◌, List, [], length, map, slice_index_or, Vec}
use Rattle.std.specs.List.{All, Contains}
use Rattle.std.specs.List.Sorted.{IsNonDecreasing}
use Rattle.std.specs.declared.alloc.Global.{Global}

-- the lists of all cells
abbrev pub numbers_of : List (Vec ℕ Global) → List (List ℕ)
numbers_of lists = map (λ list. list.items) lists

-- the numbers that a cell lists
abbrev pub listed_at : List (List ℕ) → ℕ → List ℕ
listed_at lists cell = slice_index_or lists cell []

-- no list falls, and no number in it is greater than this
pub record AreOrdered (most : ℕ) (lists : List (List ℕ)) : Type 0 where
  pub rise : (cell : ℕ) → IsNonDecreasing (listed_at lists cell)
  pub bounded : (cell : ℕ) → All (λ number. number ≤ most) (listed_at lists cell)

-- a number is added to some lists, which keep what they held
pub record Grow (number : ℕ) (before after : List (List ℕ)) : Type 0 where
  pub same : length after ≡ length before
  pub kept : (cell other : ℕ) → Contains (listed_at before cell) other → Contains (listed_at after cell) other
  pub ordered : AreOrdered number before → AreOrdered number after
