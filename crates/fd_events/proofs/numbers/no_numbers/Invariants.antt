use Rattle.std.proofs.Common.{◌≡◌, [], replicate}
use Rattle.fd_events.specs.Numbers.{numbers_of}
use Rattle.fd_events.proofs.numbers.no_numbers.Given as goal

abbrev pub invariant-loop-cell : goal.invariant-loop-cell
invariant-loop-cell l = numbers_of l.lists.items ≡ replicate l._cell []
