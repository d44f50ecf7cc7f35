use Rattle.std.proofs.Common.{◌<◌, ◌≤◌, ℕ}
use Rattle.fd_undo.specs.Whole.{AnyHasRow}
use Rattle.fd_undo.proofs.whole.have_all_rows.Given as goal

-- the rows above y are there
abbrev pub invariant-loop-span : goal.invariant-loop-span
invariant-loop-span l = record {
  low : l.place.top ≤ l.y;
  rows : (y : ℕ) → l.place.top ≤ y → y < l.y → AnyHasRow l.place y l.spans;
}
