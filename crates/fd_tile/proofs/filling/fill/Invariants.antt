use Rattle.std.proofs.Common.{◌≡◌, length, take}
use Rattle.std.specs.Prelude.{replicate}
use Rattle.fd_tile.proofs.filling.fill.Given as goal

-- so many are written
abbrev pub invariant-loop-each : goal.invariant-loop-each
invariant-loop-each q l = record {
  long : length l.row ≡ length l.initial.row;
  written : take l.each-index l.row ≡ replicate l.each-index l.value;
}
