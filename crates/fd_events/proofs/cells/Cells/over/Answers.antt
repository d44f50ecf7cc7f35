use Rattle.std.proofs.Common.{◌≡◌, ℕ}
use Rattle.fd_events.specs.Numbers.{numbers_of, listed_at}
use Rattle.fd_events.specs.Packed.{listed_in}
use Rattle.fd_events.proofs.CellGridLemmas.{ListTriangles-from}
use Rattle.fd_events.proofs.cells.Cells.over.Goals as goal

pub returns-in-Some-2-clause-cells : goal.returns-in-Some-2-clause-cells
returns-in-Some-2-clause-cells c =
    let lists = c.in_ok-lists.ensures.lists in
    let same : (cell : ℕ) → listed_in c.in-Some-2.lists cell ≡ listed_at (numbers_of c.in_ok-lists.lists.items) cell =
    rw (← c.deref.ensures.value) (rw c.in-Some-2.is at c.in_ok-lists-2.ensures.lists) in
    ListTriangles-from (record { grid = c.in-Some.grid; lists = c.in-Some-2.lists }) _ _ _ c.in-Some.ensures same lists.0 lists.1
