use Rattle.std.proofs.Common.{◌≡◌, inl, inr, arith}
use Rattle.std.proofs.lemmas.Bool.{cases_lt}
use Rattle.fd_events.proofs.CellLemmas.{Grow-then}
use Rattle.fd_events.proofs.numbers.add_row.Goals as goal

pub loop-cell-preserved : goal.loop-cell-preserved
loop-cell-preserved c =
    let inv = c.loop-cell.invariant in
    let more = c.in_ok-add.ensures.listed in
    record {
      grown = Grow-then c.args.number _ _ _ inv.grown more.0;
      added = λ cell from to. elim (cases_lt cell c.loop-cell.cell) [
        | inl before ↦ more.0.kept cell c.args.number (inv.added cell from before)
        | inr after ↦ let same : cell ≡ c.loop-cell.cell = omega (arith, after, to) in rw same more.1
      ];
    }
