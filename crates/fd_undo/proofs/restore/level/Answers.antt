use Rattle.std.proofs.Common.{arith}
use Rattle.fd_tile.proofs.Cut.{FillsPlace-flat}
use Rattle.fd_undo.proofs.Pixelwise.{restored-whole}
use Rattle.fd_undo.proofs.KeptAt.{keeps-all}
use Rattle.fd_undo.proofs.restore.level.Goals as goal

pub returns-then-have_all_rows-clause-same : goal.returns-then-have_all_rows-clause-same
returns-then-have_all_rows-clause-same c =
    let rows = c.have_all_rows.ensures c.if-have_all_rows.true in
    grind (arith, restored-whole, FillsPlace-flat, keeps-all c.place-place.result)
