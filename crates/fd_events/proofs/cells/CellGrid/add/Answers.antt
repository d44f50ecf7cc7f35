use Rattle.std.proofs.Common.{◌≡◌, ◌<◌, ◌≤◌, inl, inr, refl, arith}
use Rattle.std.proofs.lemmas.Bool.{cases_lt}
use Rattle.fd_events.specs.Cells.{cell_place, cell_over}
use Rattle.fd_events.proofs.CellLemmas.{Grow-then}
use Rattle.fd_events.proofs.CellGridLemmas.{from_left, to_right, to_bottom}
use Rattle.fd_events.proofs.cells.CellGrid.add.Goals as goal

pub loop-row-preserved : goal.loop-row-preserved
loop-row-preserved c =
    let inv = c.loop-row.invariant in
    let more = c.in_ok-add_row.ensures.listed in
    let grid = c.args.self in
    let part = c.part_under-part in
    let reached = c.reached-left.ensures in
    record {
      grown = Grow-then c.args.number _ _ _ inv.grown more.0;
      added = λ x y covered within bottom.
          let column = cell_over grid x in
          let row = cell_over grid y in
          elim (cases_lt row c.loop-row.row) [
            | inl before ↦ more.0.kept (cell_place grid column row) c.args.number (inv.added x y covered within before)
            | inr later ↦
                let same : row ≡ c.loop-row.row = omega (arith, later, bottom) in
                elim (cases_lt column c.reached-left.result.0) [
                  | inl left ↦ absurd (reached.before column (from_left part.result column row within) left x y refl same covered)
                  | inr from ↦ elim (cases_lt column c.reached-left.result.1) [
                    | inl to ↦
                        let first : c.place.result ≤ cell_place grid column c.loop-row.row =
                        rw c.place.ensures (omega (arith, part.ensures.left, reached.first, from)) in
                        let last : cell_place grid column c.loop-row.row < c.place-in-loop-row.result =
                        rw c.place-in-loop-row.ensures (omega (arith, part.ensures.left, reached.first, from, to)) in
                        rw same (more.1 (cell_place grid column c.loop-row.row) first last)
                    | inr right ↦ absurd (reached.after column right (to_right part.result column row within) x y refl same covered)
                  ]
                ]
          ];
    }

pub returns-clause-listed : goal.returns-clause-listed
returns-clause-listed c =
    let inv = c.loop-row.invariant in
    let part = c.part_under-part in (
      inv.grown,
      λ x y covered has.
          let inside = part.ensures.under x y (c.requires.covered x y covered) has in
          let bottom : cell_over c.args.self y < c.loop-row.row = omega (arith, to_bottom part.result _ _ inside, c.loop-row-test.false) in
          inv.added x y covered inside bottom,
    )
