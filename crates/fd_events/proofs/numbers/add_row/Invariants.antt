use Rattle.std.proofs.Common.{ℕ, ◌<◌, ◌≤◌}
use Rattle.std.specs.List.{Contains}
use Rattle.fd_events.specs.Numbers.{numbers_of, listed_at, Grow}
use Rattle.fd_events.proofs.numbers.add_row.Given as goal

abbrev pub invariant-loop-cell : goal.invariant-loop-cell
invariant-loop-cell l = record {
  grown : Grow l.number (numbers_of l.initial.lists.items) (numbers_of l.lists.items);
  added : (cell : ℕ) → l.first ≤ cell → cell < l.cell → Contains (listed_at (numbers_of l.lists.items) cell) l.number;
}
