use Rattle.std.proofs.Common.{◌≡◌, ◌+◌, ◌<◌, ◌++◌, length, drop, take}
use Rattle.fd_history.specs.Settled.{drawn_count, settled}
use Rattle.fd_history.proofs.settle.settle.Given as goal

-- the entries that are left, with the pixels that are left, lead to where all of them lead
abbrev pub invariant-loop-entry : goal.invariant-loop-entry
invariant-loop-entry l = record {
  long : length l.entries ≡ length l.initial.entries;
  left : drop l.entry-index l.entries ≡ drop l.entry-index l.initial.entries;
  enough : l.passed + drawn_count (drop l.entry-index l.entries) < length l.pixels;
  exact : take l.entry-index l.entries ++ settled (drop l.entry-index l.entries) (drop l.passed l.pixels) ≡ settled l.initial.entries l.pixels;
}
