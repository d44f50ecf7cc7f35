use Rattle.std.proofs.Common.{◌≡◌, ◌+◌, drop}
use Rattle.fd_undo.specs.Rows.{pixel_count}
use Rattle.fd_undo.proofs.span_lists.pixels_in.Given as goal

-- the pixels of the spans that are left come to those that were counted
abbrev pub invariant-loop-span : goal.invariant-loop-span
invariant-loop-span l = record { counted : l.pixels + pixel_count (drop l.span-index l.spans) ≡ pixel_count l.spans }
