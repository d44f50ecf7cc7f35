use Rattle.fd_events.specs.Numbers.{numbers_of}
use Rattle.fd_events.proofs.PackedLemmas.{ArePacked}
use Rattle.fd_events.proofs.packed.Packed.of.Given as goal

-- the lists so far are packed
abbrev pub invariant-loop-cell : goal.invariant-loop-cell
invariant-loop-cell l = ArePacked l.numbers.items l.starts.items (numbers_of l.lists) l.cell
